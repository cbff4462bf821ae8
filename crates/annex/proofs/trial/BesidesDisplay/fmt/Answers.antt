use Rattle.std.proofs.Common.{rules}
use Rattle.std.proofs.Output.{has_written_of_eq}
use Rattle.std.proofs.lemmas.Iterator.{YieldsList-from_slice, YieldsList-from_zip}
use Rattle.std.proofs.lemmas.Iterator.Consumers.{YieldsList-end}
use Rattle.annex.proofs.Trying.{shown_all}
use Rattle.annex.proofs.trial.BesidesDisplay.fmt.Goals as goal

pub returns-clause-writes : goal.returns-clause-writes
returns-clause-writes g c = λ plain ok.
    let pairs = YieldsList-from_zip {s = c.into_iter-given-iterator.result} (YieldsList-from_slice c.args.self.now.0.now (search rules)) (YieldsList-from_slice c.args.self.now.1.now (search rules)) in
    let all = YieldsList-end pairs c.loop-given.yielded c.loop-given.given-iterator c.loop-given.yielded_by _ c.next.new.self c.in-None.is c.next.ensures.steps in
    has_written_of_eq _ _ _ _ _ (shown_all c.loop-given.yielded _ _ all.0) (c.loop-given.invariant plain)
