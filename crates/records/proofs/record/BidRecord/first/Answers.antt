use Rattle.std.proofs.Common.{◌≡◌, take, drop, ap, ◌∙◌, w32, SFits, to_z, of_z, rules}
use Rattle.std.specs.Result.{result_unwrap_or}
use Rattle.std.proofs.lemmas.Int.{to_z-of_z}
use Rattle.scale.specs.Levels.{little_endian}
use Rattle.market.specs.declared.trade.Direction.TheVariants.{Down}
use Rattle.records.specs.Bytes.{part, signed_word}
use Rattle.records.specs.Records.{direction_of}
use Rattle.records.proofs.Numbers.{numbered_or_down}
use Rattle.records.proofs.record.BidRecord.first.Goals as goal

pub returns : goal.returns
returns c =
    let bs = take 12 c.args.bytes.now in
    let area : c.in_ok-area.area ≡ little_endian (part 0 2 bs) = search rules in
    let number : c.in_ok-direction.direction ≡ little_endian (part 2 2 bs) = search rules in
    let direction : c.unwrap_or.result ≡ direction_of (little_endian (part 2 2 bs)) =
    c.unwrap_or.ensures ∙ (ap (λ r. result_unwrap_or r Down) c.try_from.ensures ∙ (numbered_or_down c.in_ok-direction.direction ∙ ap direction_of number)) in
    let volume : c.in_ok-volume.volume ≡ little_endian (part 4 4 bs) = search rules in
    let behind : c.in_ok-volume.rest.now ≡ drop 8 bs = search rules in
    let fits : SFits w32 c.in_ok-price.price = search rules in
    let price : to_z w32 (of_z w32 c.in_ok-price.price) ≡ signed_word (part 8 4 bs) =
    to_z-of_z w32 c.in_ok-price.price fits ∙ (c.in_ok-price.ensures.0 ∙ ap (λ l. signed_word (take 4 l)) behind) in
    (cc, search rules, search rules)
