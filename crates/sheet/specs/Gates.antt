-- Gates and floats: their numbers, and how long a gate's periods last. Assumes nothing.
use Rattle.std.specs.Prelude.{ℕ}
use Rattle.sheet.specs.declared.gate.Gate.{Gate}
use Rattle.sheet.specs.declared.gate.Gate.TheVariants.{One, Two, Three}
use Rattle.sheet.specs.declared.float.Float.{Float}
use Rattle.sheet.specs.declared.float.Float.TheVariants.{AboveQuarter, AtMostQuarter, AtMostTenth}

abbrev pub gate_number : Gate → ℕ
gate_number One = 1
gate_number Two = 2
gate_number Three = 3

abbrev pub float_number : Float → ℕ
float_number AboveQuarter = 1
float_number AtMostQuarter = 2
float_number AtMostTenth = 3

-- the whole months after which a period ends
abbrev pub lasts : Gate → ℕ
lasts One = 12
lasts Two = 12
lasts Three = 2
