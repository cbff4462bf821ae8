-- What an opening comes to, with a start and without. Assumes nothing.
use Rattle.std.proofs.Common.{◌≡◌, ◌+◌, ◌-◌, ◌/◌, ◌<◌, ◌≤◌, Some, Option}
use Rattle.std.proofs.lemmas.Bool.{le-leb, lt-leb}
use Rattle.terms.specs.declared.date.Date.{Date}
use Rattle.terms.specs.Dates.{whole_months}
use Rattle.sheet.specs.declared.thresholds.Terms.{Terms}
use Rattle.sheet.specs.declared.sheet.Sheet.{Sheet}
use Rattle.sheet.specs.declared.event.Event.TheVariants.{TimeEnd}
use Rattle.sheet.specs.Gates.{lasts}
use Rattle.sheet.specs.Sheets.{next, after, events_from, opened}
use Rattle.sheet.proofs.Closing.{closes}

abbrev pub opened_from : Option Date → Terms → Sheet → Date → Sheet
opened_from start terms s date = after terms s (events_from start s date)

-- the period has lasted its time
pub opened_late : (terms : Terms) (s : Sheet) (start date : Date) → s.start ≡ Some start → lasts s.gate ≤ whole_months start.number date.number → opened terms s date ≡ next terms s (TimeEnd date)
opened_late terms s start date is late = rw (is, le-leb (lasts s.gate) (whole_months start.number date.number) late)

-- it goes on
pub opened_early : (terms : Terms) (s : Sheet) (start date : Date) → s.start ≡ Some start → whole_months start.number date.number < lasts s.gate → opened terms s date ≡ closes (whole_months start.number date.number / 2 + 1 - s.intermediate) terms s
opened_early terms s start date is early = rw (is, lt-leb (lasts s.gate) (whole_months start.number date.number) early)
