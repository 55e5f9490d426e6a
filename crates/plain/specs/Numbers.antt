-- Roles, verbs, events, refusals and periods by number. Each has a test of the numbers that decode;
-- of any other number the value means nothing.
use Rattle.std.specs.Prelude.{Bool, not, ◌&&◌, ℕ, leb, eqb}
use Rattle.lists.specs.Choice.{choose}
use Rattle.refusal.specs.declared.Refusal.{Refusal}
use Rattle.refusal.specs.declared.Refusal.TheVariants.{Form, Number, Timecode, Place, Taken, Servers, Period, Identity, Short, Past, Down, Up, Role, Link, DayOver}
use Rattle.roles.specs.declared.Verb.{Verb}
use Rattle.roles.specs.declared.Verb.TheVariants.{Start, Ready, Unready, Pass, Crash, Restart, Cut, Mend}
use Rattle.roles.specs.declared.Event.{Event}
use Rattle.roles.specs.declared.Event.TheVariants.{Nothing, ToBackup, ToProspectBeat, ToProspectReveal, Lower, LowerBeat, Beat, ToPrimary, ToSync, ToIdle, ToDown, Passed}
use Rattle.periods.specs.declared.Period as period
use Rattle.periods.specs.Period.{least_period, greatest_period, shortest}

-- a truth as a number: 1 or 0
abbrev pub is_bit : ℕ → Bool
is_bit n = leb n 1

-- roles, 0 to 5: the number is `role_number` of the crate server, the role `role_of` of the crate
-- places
abbrev pub is_role : ℕ → Bool
is_role n = leb n 5

-- verbs, 0 to 7: the number is `verb_number` of the crate server
abbrev pub is_verb : ℕ → Bool
is_verb n = leb n 7

unfoldable pub verb_of : ℕ → Verb
verb_of n =
    choose (eqb n 0) Start (choose (eqb n 1) Ready (choose (eqb n 2) Unready (choose (eqb n 3) Pass (choose (eqb n 4) Crash (choose (eqb n 5) Restart (choose (eqb n 6) Cut Mend))))))

-- events, 0 to 11; the identity passed to is a number by itself
abbrev pub is_event : ℕ → Bool
is_event n = leb n 11

abbrev pub event_number : Event → ℕ
event_number Nothing = 0
event_number ToBackup = 1
event_number ToProspectBeat = 2
event_number ToProspectReveal = 3
event_number Lower = 4
event_number Beat = 5
event_number ToPrimary = 6
event_number ToSync = 7
event_number ToIdle = 8
event_number ToDown = 9
event_number (Passed b) = 10
event_number LowerBeat = 11

-- the identity that an event passes to; 0 for all others
abbrev pub event_to : Event → ℕ
event_to Nothing = 0
event_to ToBackup = 0
event_to ToProspectBeat = 0
event_to ToProspectReveal = 0
event_to Lower = 0
event_to Beat = 0
event_to ToPrimary = 0
event_to ToSync = 0
event_to ToIdle = 0
event_to ToDown = 0
event_to (Passed b) = b
event_to LowerBeat = 0

unfoldable pub event_of : ℕ → ℕ → Event
event_of n to =
    choose (eqb n 0) Nothing
    (choose (eqb n 1) ToBackup
    (choose (eqb n 2) ToProspectBeat
    (choose (eqb n 3) ToProspectReveal
    (choose (eqb n 4) Lower (choose (eqb n 5) Beat (choose (eqb n 6) ToPrimary (choose (eqb n 7) ToSync (choose (eqb n 8) ToIdle (choose (eqb n 9) ToDown (choose (eqb n 10) (Passed to) LowerBeat))))))))))

-- refusals, 1 to 9 and 11 to 16: the number is `number_of` of the crate refusal
abbrev pub is_refusal : ℕ → Bool
is_refusal n = (leb 1 n && leb n 16) && not (eqb n 10)

unfoldable pub refusal_of : ℕ → Refusal
refusal_of n =
    choose (eqb n 1) Form
    (choose (eqb n 2) Number
    (choose (eqb n 3) Timecode
    (choose (eqb n 4) Place
    (choose (eqb n 5) Taken
    (choose (eqb n 6) Servers
    (choose (eqb n 7) Period
    (choose (eqb n 8) Identity
    (choose (eqb n 9) Short
    (choose (eqb n 11) Past (choose (eqb n 12) Down (choose (eqb n 13) Up (choose (eqb n 14) Role (choose (eqb n 15) Link DayOver)))))))))))))

-- periods, 2 to 250
abbrev pub is_period : ℕ → Bool
is_period n = leb least_period n && leb n greatest_period

unfoldable pub period_of : ℕ → period.Period
period_of n = choose (is_period n) (record { frames = n }) shortest
