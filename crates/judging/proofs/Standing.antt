-- What holds of a judge that calls reach: it is as the definition has it, or open, and then all
-- that was taken of the sheet is as due. Assumes nothing.
use Rattle.std.specs.Prelude.{Option, None, Some}
use mathlib.Core.Bool.{Bool, true, false, not, ◌&&◌, ◌||◌}
use mathlib.Core.Path.{◌≡◌, refl, sym, ap, ap₂, subst, ◌∙◌}
use mathlib.Core.List.{List, [], ◌∷◌, ◌++◌, append-nil, append_assoc}
use Prim.Native.Nat.{ℕ, suc, ◌+◌}
use native.Mathlib.Omega.{arith}
use borrow.Author.Tests.{lt-ltb, le-ltb, lt-leb, ltb-false}
use lib.Dec.{ltb}
use lib.ListN.{length, drop, length-append}
use lib.Seq.{drop-append_seam}
use Rattle.lists.proofs.Cases.{tested, on, chosen, other, or_false, and_right, fst_true, snd_true}
use Rattle.day.specs.Sheet.{header, sheet}
use Rattle.departure.specs.declared.Departure.{Departure}
use Rattle.departure.specs.declared.Departure.TheVariants.{Same, At}
use Rattle.departure.specs.declared.Compared.{Compared}
use Rattle.departure.specs.Departure.{departure, judged}
use Rattle.departure.specs.Compare.{line_ends, compared}
use Rattle.departure.proofs.Lines.{at-end, at-surplus, at-missing, at_other}
use Rattle.departure.proofs.Comparing.{Way, apart, ends, stops, way, ends-few, ends-append}
use Rattle.feeding.specs.Fed.{beginning as freshDay, remaining}
use Rattle.feeding.proofs.Laws.{laws as fed-laws}
use Rattle.printer.specs.Print.{print}
use Rattle.printer.specs.Laws.{Call, answer, Calls, none}
use Rattle.printer.proofs.Laws.{call-more, laws as print-laws}
use Rattle.judging.specs.Bounds.{sheet_limit}
use Rattle.judging.specs.Judging.{Judging, beginning, closed, Taking, nothing, with_print, sated, day_taking, departs, decision, with_compared, sheet_taking}
use Rattle.judging.proofs.Shortness.{sheets_are_short}

pub record Standing (s g : List ℕ) (j : Judging) (s' g' : List ℕ) : Type 0 where
  pub taken : List ℕ
  pub made : List Call
  pub printed : List ℕ
  pub calls : Calls freshDay s made printed j.fed s'
  pub due : header ++ printed ≡ taken ++ j.held
  pub found : g ≡ taken ++ g'
  pub lines : j.lines ≡ line_ends taken
  pub still : j.judgement ≡ None

pub data Status (s g : List ℕ) (j : Judging) (s' g' : List ℕ) : Type 0 where
  settled : (d : Departure) → j.judgement ≡ Some d → d ≡ judged s g → Status s g j s' g'
  standing : Standing s g j s' g' → Status s g j s' g'

pub begun : (s g : List ℕ) → Status s g beginning s g
unfolding line_ends
begun s g = standing (record { taken = []; made = []; printed = []; calls = none; due = append-nil header; found = refl; lines = refl; still = refl })

pub decided_closed : {v : Option Departure} {d : Departure} (n : ℕ) → v ≡ Some d → closed v n ≡ true
unfolding closed
decided_closed n e = rw e refl

-- ---- open

module _ {s g : List ℕ} {j : Judging} {s' g' : List ℕ} (v : Standing s g j s' g') where
  -- what is still to be printed
  abbrev rest : List ℕ
  rest = remaining j.fed s'

  pub whole : v.taken ++ (j.held ++ rest) ≡ sheet s
  whole =
      sym (append_assoc v.taken j.held rest)
      ∙ ap (λ (x : List ℕ). x ++ rest) (sym v.due)
      ∙ append_assoc header v.printed rest
      ∙ print-laws.calls s s' v.printed v.made j.fed v.calls

  pub not-closed : closed j.judgement j.lines ≡ false
  unfolding closed
  not-closed =
      let a = ap length whole in
      let b = length-append v.taken (j.held ++ rest) in
      let c = ends-few v.taken in
      let d = sheets_are_short s in
      let e = v.lines in
      rw (v.still, lt-leb sheet_limit j.lines (omega arith)) refl

  -- ---- a piece of the day

  module _ (p r : List ℕ) (last : Bool) (room : ℕ) (is : s' ≡ p ++ r) (all : last ≡ true → r ≡ []) where
    abbrev call : Call
    call = record { piece = p; last = last; room = room }

    pub printed-on : length j.held ≡ 0 → Standing s g (with_print j (print j.fed p last room)) (drop (answer j.fed call).used s') g'
    printed-on e =
        let lines = (answer j.fed call).lines in
        let none-held : j.held ≡ [] = length_none j.held e in
        record {
          taken = v.taken;
          made = v.made ++ (call ∷ []);
          printed = v.printed ++ lines;
          calls = call-more call v.calls is all;
          due = sym (append_assoc header v.printed lines) ∙ ap (λ (x : List ℕ). x ++ lines) (v.due ∙ ap (λ (x : List ℕ). v.taken ++ x) none-held ∙ append-nil v.taken);
          found = v.found;
          lines = v.lines;
          still = v.still;
        }
      where
        length_none : (l : List ℕ) → length l ≡ 0 → l ≡ []
        length_none [] e = refl
        length_none (x ∷ l) e = absurd (omega arith)

    pub printed-taken : (e : length j.held ≡ 0) → (printed-on e).taken ≡ v.taken
    unfolding printed-on
    printed-taken e = refl

  -- ---- bytes t that are held and that come

  module _ (t : List ℕ) where
    at_place : (a b : List ℕ) → j.held ++ rest ≡ t ++ a → g' ≡ t ++ b → departure ((v.taken ++ t) ++ a) ((v.taken ++ t) ++ b) ≡ judged s g
    at_place a b ea eb =
        ap₂ departure
        (append_assoc v.taken t a ∙ ap (λ (x : List ℕ). v.taken ++ x) (sym ea) ∙ whole)
        (append_assoc v.taken t b ∙ ap (λ (x : List ℕ). v.taken ++ x) (sym eb) ∙ sym v.found)

    line_at : (c : Compared) → c.lines ≡ line_ends t → At (suc (j.lines + c.lines)) ≡ At (suc (line_ends (v.taken ++ t)))
    line_at c e = ap At (let l = v.lines in let a = ends-append v.taken t in let z : suc (j.lines + c.lines) ≡ suc (line_ends (v.taken ++ t)) = omega arith in z)

    advance :
        (c : Compared) (m : ℕ) (last : Bool) (h b : List ℕ) → j.held ≡ t ++ h → g' ≡ t ++ b → c.bytes ≡ length t → c.lines ≡ line_ends t →
        (with_compared j m last c).judgement ≡ None → Standing s g (with_compared j m last c) s' (drop c.bytes g')
    advance c m last h b eh eb n l o =
        let held : drop c.bytes j.held ≡ h = ap₂ drop n eh ∙ drop-append_seam t h in
        let come : drop c.bytes g' ≡ b = ap₂ drop n eb ∙ drop-append_seam t b in
        record {
          taken = v.taken ++ t;
          made = v.made;
          printed = v.printed;
          calls = v.calls;
          due = v.due ∙ ap (λ (x : List ℕ). v.taken ++ x) (eh ∙ ap (λ (x : List ℕ). t ++ x) (sym held)) ∙ sym (append_assoc v.taken t (drop c.bytes j.held));
          found = v.found ∙ ap (λ (x : List ℕ). v.taken ++ x) (eb ∙ ap (λ (x : List ℕ). t ++ x) (sym come)) ∙ sym (append_assoc v.taken t (drop c.bytes g'));
          lines = let a = ends-append v.taken t in let e = v.lines in omega arith;
          still = o;
        }

-- ---- what is decided

pub decides_at : {b : Bool} (e : Bool) (k : ℕ) → b ≡ true → decision b e k ≡ Some (At k)
unfolding decision
decides_at e k h = chosen _ h

pub decides_same : {b e : Bool} (k : ℕ) → b ≡ false → e ≡ true → decision b e k ≡ Some Same
unfolding decision
decides_same k h t = other _ h ∙ chosen _ t

pub decides_nothing : {b e : Bool} (k : ℕ) → b ≡ false → e ≡ false → decision b e k ≡ None
unfolding decision
decides_nothing k h t = other _ h ∙ other _ t

-- ---- a piece of the sheet

module _ {s g : List ℕ} {j : Judging} {s' g' : List ℕ} (v : Standing s g j s' g') (p r : List ℕ) (last : Bool) (is : g' ≡ p ++ r) (all : last ≡ true → r ≡ []) where
  abbrev over : Bool
  over = j.fed.over

  abbrev left : List ℕ
  left = remaining j.fed s'

  abbrev Next : Compared → Type 0
  Next c = Status s g (with_compared j (length p) last c) s' (drop c.bytes g')

  module _ (c : Compared) where
    abbrev leaves : Bool
    leaves = departs c (length j.held) (length p) last over

    abbrev here : Departure
    here = At (suc (j.lines + c.lines))

    departs-here : leaves ≡ true → here ≡ judged s g → Next c
    departs-here h e = settled here (decides_at (last && over) _ h) e

    goes_on_lem : (t h b : List ℕ) → leaves ≡ false → (last && over) ≡ false → j.held ≡ t ++ h → g' ≡ t ++ b → c.bytes ≡ length t → c.lines ≡ line_ends t → Next c
    goes_on_lem t h b none-leaves not-ended eh eb n l = standing (advance v t c (length p) last h b eh eb n l (decides_nothing _ none-leaves not-ended))

    -- two bytes differ
    by_apart : (t : List ℕ) (x y : ℕ) (a b : List ℕ) → (x ≡ y → ⊥) → j.held ≡ t ++ (x ∷ a) → p ≡ t ++ (y ∷ b) → c.departed ≡ true → c.lines ≡ line_ends t → Next c
    by_apart t x y a b h eh ep d l =
        departs-here (ap (λ (z : Bool). z || ((ltb c.bytes (length j.held) && last) || (ltb c.bytes (length p) && over))) d)
        (line_at v t c l
        ∙ sym (at_other (v.taken ++ t) x y (a ++ left) (b ++ r) h)
        ∙ at_place v t (x ∷ (a ++ left)) (y ∷ (b ++ r))
        (ap (λ (z : List ℕ). z ++ left) eh ∙ append_assoc t (x ∷ a) left)
        (is ∙ ap (λ (z : List ℕ). z ++ r) ep ∙ append_assoc t (y ∷ b) r))

    module _ (d : c.departed ≡ false) where
      is-so : {x y : Bool} → ltb c.bytes (length j.held) ≡ x → ltb c.bytes (length p) ≡ y → leaves ≡ ((x && last) || (y && over))
      is-so ex ey = rw (d, ex, ey) refl

      -- bytes are held that the piece has not come to
      by-stops : (x : ℕ) (a : List ℕ) → j.held ≡ p ++ (x ∷ a) → c.bytes ≡ length p → c.lines ≡ line_ends p → Next c
      by-stops x a eh n l =
          let long : length j.held ≡ length p + suc (length a) = ap length eh ∙ length-append p (x ∷ a) in
          let so : leaves ≡ ((true && last) || (false && over)) = is-so (lt-ltb c.bytes (length j.held) (omega arith)) (le-ltb c.bytes (length p) (omega arith)) in
          on (tested last)
          (λ e.
          departs-here (so ∙ ap (λ (z : Bool). (true && z) || (false && over)) e)
          (line_at v p c l
          ∙ sym (at-missing (v.taken ++ p) x (a ++ left))
          ∙ at_place v p (x ∷ (a ++ left)) []
          (ap (λ (z : List ℕ). z ++ left) eh ∙ append_assoc p (x ∷ a) left)
          (is ∙ ap (λ (z : List ℕ). p ++ z) (all e))))
          (λ e. goes_on_lem p (x ∷ a) r (so ∙ ap (λ (z : Bool). (true && z) || (false && over)) e) (ap (λ (z : Bool). z && over) e) eh is n l)

      -- all that is held was found, and bytes of the piece are left
      by-more : (y : ℕ) (b : List ℕ) → p ≡ j.held ++ (y ∷ b) → c.bytes ≡ length j.held → c.lines ≡ line_ends j.held → Next c
      by-more y b ep n l =
          let long : length p ≡ length j.held + suc (length b) = ap length ep ∙ length-append j.held (y ∷ b) in
          let so : leaves ≡ ((false && last) || (true && over)) = is-so (le-ltb c.bytes (length j.held) (omega arith)) (lt-ltb c.bytes (length p) (omega arith)) in
          let come : g' ≡ j.held ++ (y ∷ (b ++ r)) = is ∙ ap (λ (z : List ℕ). z ++ r) ep ∙ append_assoc j.held (y ∷ b) r in
          on (tested over)
          (λ e.
          departs-here (so ∙ e)
          (line_at v j.held c l
          ∙ sym (at-surplus (v.taken ++ j.held) y (b ++ r))
          ∙ at_place v j.held [] (y ∷ (b ++ r)) (ap (λ (z : List ℕ). j.held ++ z) (fed-laws.over j.fed s' e)) come))
          (λ e. goes_on_lem j.held [] (y ∷ (b ++ r)) (so ∙ e) (and_right last e) (sym (append-nil j.held)) come n l)

      -- all that is held was found, and no byte of the piece is left
      by_both : p ≡ j.held ++ [] → c.bytes ≡ length j.held → c.lines ≡ line_ends j.held → Next c
      by_both ep n l =
          let long : length p ≡ length j.held + 0 = ap length ep ∙ length-append j.held [] in
          let so : leaves ≡ ((false && last) || (false && over)) = is-so (le-ltb c.bytes (length j.held) (omega arith)) (le-ltb c.bytes (length p) (omega arith)) in
          let come : g' ≡ j.held ++ r = is ∙ ap (λ (z : List ℕ). z ++ r) (ep ∙ append-nil j.held) in
          on (tested (last && over))
          (λ e.
          settled Same (decides_same _ so e)
          (sym (at-end (v.taken ++ j.held))
          ∙ at_place v j.held [] []
          (ap (λ (z : List ℕ). j.held ++ z) (fed-laws.over j.fed s' (snd_true last over e)))
          (come ∙ ap (λ (z : List ℕ). j.held ++ z) (all (fst_true last over e)))))
          (λ e. goes_on_lem j.held [] r so e (sym (append-nil j.held)) come n l)

  by_way : (c : Compared) → Way j.held p c → Next c
  by_way c (apart t x y a b h ea eb d n l) = by_apart c t x y a b h ea eb d l
  by_way c (ends [] e d n l) = by_both c d e n l
  by_way c (ends (y ∷ b) e d n l) = by-more c d y b e n l
  by_way c (stops x a e d n l) = by-stops c d x a e n l

-- ---- every call

pub day-idle : (j : Judging) (p : List ℕ) (last : Bool) (room : ℕ) → sated j ≡ true → day_taking j p last room ≡ nothing j
unfolding day_taking
day-idle j p last room e = chosen _ e

pub day-busy : (j : Judging) (p : List ℕ) (last : Bool) (room : ℕ) → sated j ≡ false → day_taking j p last room ≡ record { used = (print j.fed p last room).used; judging = with_print j (print j.fed p last room) }
unfolding day_taking
day-busy j p last room e = other _ e

pub sheet-idle : (j : Judging) (p : List ℕ) (last : Bool) → closed j.judgement j.lines ≡ true → sheet_taking j p last ≡ nothing j
unfolding sheet_taking
sheet-idle j p last e = chosen _ e

pub sheet-busy : (j : Judging) (p : List ℕ) (last : Bool) → closed j.judgement j.lines ≡ false → sheet_taking j p last ≡ record { used = (compared j.held p).bytes; judging = with_compared j (length p) last (compared j.held p) }
unfolding sheet_taking
sheet-busy j p last e = other _ e

module _ (s g : List ℕ) (j : Judging) (s' g' : List ℕ) where
  abbrev AfterDay : Taking → Type 0
  AfterDay t = Status s g t.judging (drop t.used s') g'

  pub day-next : Status s g j s' g' → (p r : List ℕ) (last : Bool) (room : ℕ) → s' ≡ p ++ r → (last ≡ true → r ≡ []) → AfterDay (day_taking j p last room)
  day-next (settled d e is) p r last room split all =
      subst AfterDay (sym (day-idle j p last room (ap (λ (z : Bool). z || ltb 0 (length j.held)) (decided_closed j.lines e)))) (settled d e is)
  day-next (standing v) p r last room split all =
      on (tested (sated j))
      (λ e. subst AfterDay (sym (day-idle j p last room e)) (standing v))
      (λ e.
      subst AfterDay (sym (day-busy j p last room e))
      (standing (printed-on v p r last room split all (let z = ltb-false 0 (length j.held) (or_false (closed j.judgement j.lines) _ e).1 in omega arith))))

  abbrev AfterSheet : Taking → Type 0
  AfterSheet t = Status s g t.judging s' (drop t.used g')

  pub sheet-next : Status s g j s' g' → (p r : List ℕ) (last : Bool) → g' ≡ p ++ r → (last ≡ true → r ≡ []) → AfterSheet (sheet_taking j p last)
  sheet-next (settled d e is) p r last split all = subst AfterSheet (sym (sheet-idle j p last (decided_closed j.lines e))) (settled d e is)
  sheet-next (standing v) p r last split all =
      subst AfterSheet (sym (sheet-busy j p last (not-closed v))) (by_way v p r last split all (compared j.held p) (way j.held p))
