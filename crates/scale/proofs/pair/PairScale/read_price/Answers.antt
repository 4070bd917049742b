use Rattle.std.proofs.Common.{ap, sym, ◌∙◌, arith}
use Rattle.std.specs.Option.{option_map, option_zip}
use Rattle.scale.proofs.Bytes.{pair_reads, zip_worths}
use Rattle.scale.proofs.pair.PairScale.read_price.Goals as goal

pub returns : goal.returns
returns g c =
    ap (option_map _) c.zip.ensures
    ∙ zip_worths g.A.Scale.worth g.B.Scale.worth c.read_price.result c.read_price-2.result
    ∙ (λ i. option_zip (c.read_price.ensures i) (c.read_price-2.ensures i))
    ∙ sym (pair_reads g.A.Scale.meaning g.B.Scale.meaning c.levels-first.result c.levels.result c.args.bytes.now _ _ c.levels-first.ensures c.levels.ensures (omega arith) c.in_ok-front.ensures.cases)
