use Rattle.std.specs.Fmt.{HasWritten, IsPlainFormatter}
use Rattle.annex.proofs.Trying.{shown}
use Rattle.annex.proofs.trial.BesidesDisplay.fmt.Given as goal

abbrev pub invariant-loop-given : goal.invariant-loop-given
invariant-loop-given g l = IsPlainFormatter l.initial.f → HasWritten g.W.Write.write_str_gives l.initial.f (shown l.yielded) l.f
