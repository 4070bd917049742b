use Rattle.layout.proofs.Orders.{questions_in_order}
use Rattle.layout.proofs.exact.questions_in_order.Goals as goal

pub returns : goal.returns
returns c = questions_in_order
