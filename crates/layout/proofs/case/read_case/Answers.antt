use Rattle.std.proofs.Common.{Ok, Err, sym, ap, ◌∙◌}
use Rattle.std.proofs.lemmas.Result.{err_from_is_err_and}
use Rattle.layout.specs.CaseBytes.{written}
use Rattle.layout.specs.Sections.{forget}
use Rattle.layout.proofs.Cases.{ends_by, case_read_is, case_answered}
use Rattle.layout.proofs.Exactly.{bytes_back}
use Rattle.layout.proofs.Numbers.{bytewise}
use Rattle.layout.proofs.case.read_case.Goals as goal

pub returns-in_err-check_records-clause-answer : goal.returns-in_err-check_records-clause-answer
returns-in_err-check_records-clause-answer c =
    let bs = c.args.bytes.now in
    let end = ends_by c.args.bids bs c.in_ok-header.header c.in_ok-header.ensures.answer c.in_ok-header.ensures.header in
    let p = err_from_is_err_and c.from_residual-in_err-check_records.result c.from_residual-in_err-check_records.ensures.1 in
    let no_here =
    case_answered c.in_ok-header.header bs c.tables-case.result c.in_ok-header.ensures.header end c.tables-case.ensures c.args.bids (Err c.in_err-check_records.field-0.0)
    c.in_ok-header.ensures.answer c.in_err-check_records.ensures in
    ap forget (p.1 ∙ ap Err p.2) ∙ no_here

pub returns : goal.returns
returns c =
    let bs = c.args.bytes.now in
    let end = ends_by c.args.bids bs c.in_ok-header.header c.in_ok-header.ensures.answer c.in_ok-header.ensures.header in
    let yes_here =
    case_answered c.in_ok-header.header bs c.tables-case.result c.in_ok-header.ensures.header end c.tables-case.ensures c.args.bids (Ok tt)
    c.in_ok-header.ensures.answer c.in_ok-check_records.ensures in
    let held = case_read_is c.in_ok-header.header bs c.tables-case.result c.in_ok-header.ensures.header end c.tables-case.ensures in
    record { answer = yes_here; holds = held; exact = ap written held ∙ bytes_back c.args.bids bs (bytewise bs c.type_inv.bytes) (sym yes_here) }
