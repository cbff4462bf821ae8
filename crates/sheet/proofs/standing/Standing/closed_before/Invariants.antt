use Rattle.std.proofs.Common.{◌≡◌, ◌-◌, ◌≤◌, true, is_some}
use Rattle.sheet.proofs.Closing.{closes}
use Rattle.sheet.proofs.standing.Standing.closed_before.Given as goal

-- what is left to close leads to the same sheet
abbrev pub invariant-loop-closing : goal.invariant-loop-closing
invariant-loop-closing l =
    record {
      same_terms : l.standing.terms ≡ l.initial.standing.terms;
      same_end : closes (l.intermediate - l._closing) l.standing.terms l.standing.sheet ≡ closes (l.intermediate - l.initial.standing.sheet.intermediate) l.initial.standing.terms l.initial.standing.sheet;
      runs : is_some l.standing.sheet.start ≡ true;
      no_further : l.standing.sheet.intermediate ≤ l._closing;
    }
