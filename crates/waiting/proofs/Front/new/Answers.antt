-- `waiting::Front::new` meets its contract: no key is in order. Assumes nothing.
use Rattle.order.specs.Order.{ToNext}
use Rattle.waiting.proofs.Front.new.Goals as goal

pub invariant_of-result-clause-rise : goal.invariant_of-result-clause-rise
unfolding ToNext
invariant_of-result-clause-rise c = tt
