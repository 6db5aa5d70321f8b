-- `probe::probe_judge` meets its contract: the refusal by size and form, told. Assumes nothing.
use Rattle.std.proofs.Common.{◌∙◌}
use Rattle.probe.specs.Probe.{judge_probe}
use Rattle.probe.proofs.probe_judge.Goals as goal

pub returns : goal.returns
unfolding judge_probe
returns c = c.from.ensures ∙ c.told.ensures ∙ c.admit.ensures.refusal_is
