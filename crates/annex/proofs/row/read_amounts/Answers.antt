use Rattle.std.proofs.Common.{◌≡◌, ◌<◌, ◌≤◌, ◌==◌, true, sym, ap, ◌∙◌, ⊎_elim, arith, rules}
use Rattle.std.specs.Slice.Iter.{split_rest, split_done, splitn_count, splitn_parts}
use Rattle.std.proofs.lemmas.List.Sorted.{answers_always}
use Rattle.annex.proofs.Reading.{seven, seven_more, seven_bad, seven_ended, seven_done}
use Rattle.annex.proofs.row.read_amounts.Goals as goal

pub returns-in_err-next : goal.returns-in_err-next
returns-in_err-next c =
    let inv = c.loop-amount.invariant in
    let short : c.loop-amount.amount-index < 7 = omega (arith, inv.0) in
    let done : split_done (splitn_parts c.loop-amount.fields) ≡ true =
    ⊎_elim (λ (none : splitn_count c.loop-amount.fields ≡ 0). absurd (omega (arith, none, inv.1))) (λ d. d) c.in_err-next.ensures.steps.1 in
    let ended = ap (λ d. seven c.loop-amount.amount-index c.loop-amount.amount-items d (split_rest (splitn_parts c.loop-amount.fields))) done ∙ seven_ended _ _ _ short in
    c.from_residual.ensures ∙ sym ended ∙ inv.3

pub returns-in_err-amount : goal.returns-in_err-amount
returns-in_err-amount c =
    let inv = c.loop-amount.invariant in
    let short : c.loop-amount.amount-index < 7 = omega (arith, inv.0) in
    let step = c.in_ok-next.ensures.steps.1 in
    c.from_residual-in_err-amount.ensures ∙ sym (seven_bad _ _ _ _ _ _ _ short step.3 (record { goes = step.2; last = λ z. step.1 (omega (arith, z, inv.1)); first = λ some. (step.4 (omega (arith, some, inv.1)) (λ b. b == 59) (answers_always _ _ _ (λ f a r q call. search rules))).1 }) (search rules)) ∙ inv.3

pub loop-amount-preserved : goal.loop-amount-preserved
loop-amount-preserved c =
    let inv = c.loop-amount.invariant in
    let short : c.loop-amount.amount-index < 7 = omega (arith, inv.0) in
    let steps = c.in_ok-next.ensures.steps in
    let step = steps.1 in
    (search rules, omega (arith, steps.0, inv.1), λ h. step.1 (omega (arith, inv.1)), seven_more _ _ _ _ _ _ _ _ short inv.0 step.3 (record { goes = step.2; last = λ z. step.1 (omega (arith, z, inv.1)); first = λ some. (step.4 (omega (arith, some, inv.1)) (λ b. b == 59) (answers_always _ _ _ (λ f a r q call. search rules))).1 }) (search rules) ∙ inv.3)

pub returns : goal.returns
returns c =
    let inv = c.loop-amount.invariant in
    let all : 7 ≤ c.loop-amount.amount-index = omega (arith, inv.0) in
    sym (seven_done _ _ _ all inv.0) ∙ ap (λ d. seven c.loop-amount.amount-index c.loop-amount.amount-items d (split_rest (splitn_parts c.loop-amount.fields))) (sym (inv.2 all)) ∙ inv.3
