-- Laws of judging. The contract of `Judge::begin` has them all (`Laws`, below); the proof is `laws`
-- of proofs/Laws.antt.
use Rattle.std.specs.Prelude.{Bool, true, false, ◌≡◌, List, [], ◌∷◌, ◌++◌, ◌⊎◌, ℕ, ◌+◌, ◌*◌, ◌≤◌, ◌<◌, length, drop, None, Some}
use Rattle.day.specs.Sheet.{sheet}
use Rattle.departure.specs.declared.Departure.{Departure}
use Rattle.departure.specs.Departure.{judged}
use Rattle.departure.specs.Compare.{line_ends}
use Rattle.feeding.specs.Fed.{remaining, waits}
use Rattle.feeding.specs.Bound.{step_bytes}
use Rattle.judging.specs.Bounds.{SheetsAreShort}
use Rattle.judging.specs.Judging.{Judging, beginning, is_decided, asks, Taking, nothing, day_taking, sheet_taking}

-- ---- calls one after the other

-- a piece of the day, whether it is the last, and how many bytes can be held; a piece of the sheet,
-- and whether it is the last
pub data Call : Type 0 where
  of_day : List ℕ → Bool → ℕ → Call
  of_sheet : List ℕ → Bool → Call

-- From j on, with the bytes s of the day and g of the sheet still to come, the calls leave j' with
-- s' and g' still to come. A piece is the first bytes of what is still to come of its file, any
-- number of them, none too; that it is the last is said only where it is all of them. The two files
-- come in any interleaving. Each call is as Q demands
pub data Calls (Q : Judging → Call → Type 0) : Judging → List ℕ → List ℕ → List Call → Judging → List ℕ → List ℕ → Type 0 where
  none : {j : Judging} {s g : List ℕ} → Calls Q j s g [] j s g
  takes_day : {j j' : Judging} {s g s' g' p rest : List ℕ} {last : Bool} {room : ℕ} {cs : List Call} → Q j (of_day p last room) →
      s ≡ p ++ rest → (last ≡ true → rest ≡ []) →
      Calls Q (day_taking j p last room).judging (drop (day_taking j p last room).used s) g cs j' s' g' →
      Calls Q j s g (of_day p last room ∷ cs) j' s' g'
  takes_sheet : {j j' : Judging} {s g s' g' p rest : List ℕ} {last : Bool} {cs : List Call} → Q j (of_sheet p last) →
      g ≡ p ++ rest → (last ≡ true → rest ≡ []) →
      Calls Q (sheet_taking j p last).judging s (drop (sheet_taking j p last).used g) cs j' s' g' →
      Calls Q j s g (of_sheet p last ∷ cs) j' s' g'

-- any call
abbrev pub Any : Judging → Call → Type 0
Any j c = Unit {0}

-- calls on the day s and the sheet g leave j, with s' and g' still to come
pub record Reached (s g : List ℕ) (j : Judging) (s' g' : List ℕ) : Type 0 where
  pub made : List Call
  pub calls : Calls Any beginning s g made j s' g'

-- so begins every list of calls, and goes on with any piece of the day or of the sheet
abbrev pub CallsBegin : Type 0
CallsBegin = (s g : List ℕ) → Reached s g beginning s g

abbrev pub DayMayCome : Type 0
DayMayCome = (s g s' g' p rest : List ℕ) (j : Judging) (last : Bool) (room : ℕ) → Reached s g j s' g' → s' ≡ p ++ rest → (last ≡ true → rest ≡ []) → Reached s g (day_taking j p last room).judging (drop (day_taking j p last room).used s') g'

abbrev pub SheetMayCome : Type 0
SheetMayCome = (s g s' g' p rest : List ℕ) (j : Judging) (last : Bool) → Reached s g j s' g' → g' ≡ p ++ rest → (last ≡ true → rest ≡ []) → Reached s g (sheet_taking j p last).judging s' (drop (sheet_taking j p last).used g')

-- whatever the pieces, the lengths and the interleaving, what is decided is the definition's answer
abbrev pub EveryWayJudges : Type 0
EveryWayJudges = (s g s' g' : List ℕ) (j : Judging) → Reached s g j s' g' → (d : Departure) → j.judgement ≡ Some d → d ≡ judged s g

-- and it stays so: nothing more is taken
abbrev pub DecidedStays : Type 0
DecidedStays = (j : Judging) (p : List ℕ) (last : Bool) (room : ℕ) → is_decided j.judgement ≡ true → (day_taking j p last room ≡ nothing j) × (sheet_taking j p last ≡ nothing j)

-- ---- no later than what is held and what has come allows

-- the sheet's bytes so far are those of the day's sheet, and the bytes held are due next
pub record AsDue (s g : List ℕ) (j : Judging) (s' g' : List ℕ) : Type 0 where
  pub taken : List ℕ
  pub found : g ≡ taken ++ g'
  pub due : taken ++ (j.held ++ remaining j.fed s') ≡ sheet s
  pub lines : j.lines ≡ line_ends taken

-- while it is open every byte that was taken is as due
abbrev pub OpenIsAsDue : Type 0
OpenIsAsDue = (s g s' g' : List ℕ) (j : Judging) → Reached s g j s' g' → j.judgement ≡ None → AsDue s g j s' g'

-- after a piece of the sheet it is open and bytes are left, or the sheet has ended, only where no
-- byte due is held and more may be due
abbrev pub NoneIsLeft : Type 0
NoneIsLeft = (s g s' g' : List ℕ) (j : Judging) → Reached s g j s' g' → (p : List ℕ) (last : Bool) →
    let t = sheet_taking j p last in
    t.judging.judgement ≡ None → (t.used < length p) ⊎ (last ≡ true) → asks t.judging ≡ true

-- after a piece of the day with room for a step it asks for more only where the piece is used up,
-- is not the last, and no whole line is to be done
pub record UsedUp (p : List ℕ) (last : Bool) (t : Taking) : Type 0 where
  pub all : t.used ≡ length p
  pub more : last ≡ false
  pub done : waits t.judging.fed ≡ false

abbrev pub AsksWhenUsedUp : Type 0
AsksWhenUsedUp = (s g s' g' : List ℕ) (j : Judging) → Reached s g j s' g' → (p : List ℕ) (last : Bool) (room : ℕ) → step_bytes ≤ room →
    let t = day_taking j p last room in
    j.judgement ≡ None → asks t.judging ≡ true → UsedUp p last t

-- "the sheet to match is the one that ends with that refusal": where it is over, no more of the day
-- is taken
abbrev pub NotReadBeyond : Type 0
NotReadBeyond = (j : Judging) (p : List ℕ) (last : Bool) (room : ℕ) → j.fed.over ≡ true → (day_taking j p last room).used ≡ 0

-- ---- no caller is stuck

-- a call in its turn: a piece of the day where it is asked for, with room for a step, else one of
-- the sheet; with a byte, or the last
pub data InTurn (j : Judging) : Call → Type 0 where
  day_next : {p : List ℕ} {last : Bool} {room : ℕ} → asks j ≡ true → step_bytes ≤ room → (0 < length p) ⊎ (last ≡ true) → InTurn j (of_day p last room)
  sheet_next : {p : List ℕ} {last : Bool} → asks j ≡ false → (0 < length p) ⊎ (last ≡ true) → InTurn j (of_sheet p last)

-- from wherever calls have come, as many of them decide as bytes are to come of the day and the
-- sheet, twice those of the day's sheet, and two more
abbrev pub CallsInTurnDecide : Type 0
CallsInTurnDecide = (s g s₁ g₁ s' g' : List ℕ) (cs : List Call) (i j : Judging) → Reached s g i s₁ g₁ → Calls InTurn i s₁ g₁ cs j s' g' →
    length s₁ + length g₁ + 2 * length (sheet s) + 2 ≤ length cs → is_decided j.judgement ≡ true

pub record Laws : Type 0 where
  pub begins : CallsBegin
  pub day : DayMayCome
  pub sheet : SheetMayCome
  pub stays : DecidedStays
  pub judges : EveryWayJudges
  pub due : OpenIsAsDue
  pub left : NoneIsLeft
  pub asks : AsksWhenUsedUp
  pub beyond : NotReadBeyond
  pub decide : CallsInTurnDecide
  pub short : SheetsAreShort
