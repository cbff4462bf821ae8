-- Founding sheets: which are in range, and the first period sheet. Assumes nothing.
use Rattle.std.specs.Prelude.{ℕ, Bool, cond, ◌&&◌, None, ◌==◌}
use Rattle.terms.specs.Prices.{within, is_price}
use Rattle.sheet.specs.declared.gate.Gate.{Gate}
use Rattle.sheet.specs.declared.gate.Gate.TheVariants.{One, Two, Three}
use Rattle.sheet.specs.declared.float.Float.{Float}
use Rattle.sheet.specs.declared.float.Float.TheVariants.{AboveQuarter, AtMostQuarter, AtMostTenth}
use Rattle.sheet.specs.declared.thresholds.Terms.{Terms}
use Rattle.sheet.specs.declared.sheet.Sheet.{Sheet}
use Rattle.sheet.specs.declared.founding.FoundingSheet.{FoundingSheet}
use Rattle.sheet.specs.Gates.{gate_number, float_number}
use Rattle.sheet.specs.Sheets.{fresh}
use Rattle.sheet.specs.Sounds.{fits}

-- the gate and the float that have a number from 1 to 3
abbrev pub gate_of : ℕ → Gate
gate_of n = cond (n == gate_number One) One (cond (n == gate_number Two) Two Three)

abbrev pub float_of : ℕ → Float
float_of n = cond (n == float_number AboveQuarter) AboveQuarter (cond (n == float_number AtMostQuarter) AtMostQuarter AtMostTenth)

-- what stays
abbrev pub terms_of : FoundingSheet → Terms
terms_of f =
    record { float = float_of f.float; choice = f.choice; circulation = f.circulation; «cap» = f.«cap»; first = f.first }

-- the first sheet of a share
abbrev pub founded : FoundingSheet → Sheet
founded f = fresh (gate_of f.gate) 8 f.reference None

abbrev pub terms_in_range : FoundingSheet → Bool
terms_in_range f = within 1 3 f.float && fits (terms_of f)

abbrev pub sheet_in_range : FoundingSheet → Bool
sheet_in_range f = within 1 3 f.gate && is_price f.reference

-- which founding sheets are taken
abbrev pub in_range : FoundingSheet → Bool
in_range f = terms_in_range f && sheet_in_range f
