-- How many shares it takes, out of 100,000 in circulation. Assumes nothing.
use Rattle.std.specs.Prelude.{ℕ, ◌*◌, ◌/◌, Bool, nat_le}
use Rattle.sheet.specs.declared.gate.Gate.{Gate}
use Rattle.sheet.specs.declared.gate.Gate.TheVariants.{One, Two, Three}
use Rattle.sheet.specs.declared.float.Float.{Float}
use Rattle.sheet.specs.declared.float.Float.TheVariants.{AboveQuarter, AtMostQuarter, AtMostTenth}
use Rattle.sheet.specs.declared.thresholds.Terms.{Terms}

-- a small float halves a threshold, a very small one quarters it
abbrev pub eased : Float → ℕ → ℕ
eased AboveQuarter t = t
eased AtMostQuarter t = t / 2
eased AtMostTenth t = t / 4

-- what ends a period
abbrev pub reference_in : Gate → Terms → ℕ
reference_in One terms = eased terms.float 1000
reference_in Two terms = terms.choice
reference_in Three terms = 500

-- what keeps the limit from widening when an intermediate period closes; Gate 3 has no intermediate periods
abbrev pub minimum_in : Gate → Terms → ℕ
minimum_in One terms = eased terms.float 100
minimum_in Two terms = 100
minimum_in Three terms = 0

-- so many shares reach a threshold
abbrev pub reached : Terms → ℕ → ℕ → Bool
reached terms threshold shares = nat_le (threshold * terms.circulation) (100000 * shares)
