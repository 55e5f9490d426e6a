-- A fresh channel is sound. Assumes nothing.
use mathlib.Core.Bool.{true, false, not, ◌&&◌}
use mathlib.Core.Path.{◌≡◌, refl, sym, ap, subst, ◌∙◌}
use mathlib.Core.Logic.{inl}
use mathlib.Core.List.{List, [], ◌∷◌}
use Prim.Native.Nat.{ℕ, suc, ◌*◌, ◌≤◌}
use native.Mathlib.Omega.{arith}
use borrow.Author.Tests.{eq-eqb, ne_eqb, ltb-false, leb-true}
use lib.Dec.{ltb, leb, eqb}
use lib.ListN.{length, get_or, replicate, length-replicate}
use Rattle.lists.specs.Choice.{choose}
use Rattle.lists.specs.Lists.{count_below}
use Rattle.lists.proofs.Cases.{tested, equal, chosen, other, and_true, and_right, fst_true, on, clash, not_first}
use Rattle.lists.proofs.Counting.{count_shift}
use Rattle.refusal.specs.Answer.{Answer, accepted, refused}
use Rattle.server.specs.declared.Server.{Server}
use Rattle.periods.specs.Period.{least_period, greatest_period, take_period}
use Rattle.server.specs.Server.{absent, sent_any}
use Rattle.group.specs.declared.Table.{Table}
use Rattle.group.specs.declared.State.{State}
use Rattle.group.specs.Table.{most, is_empty, counted, is_table, fresh_refusal, fresh}
use Rattle.group.specs.Hearing.{place}
use Rattle.group.proofs.Made.{every-at, rising-apart, New, Neat, is-neat, table-opened, fresh_has_its_table}
use Rattle.roles.specs.Roles.{is_active}
use Rattle.traces.proofs.Ways as ways
use Rattle.reached.proofs.Sound.{Sound, seated_in}

-- the servers of a list, counted by place
counted-places : (l : List Server) → counted l ≡ count_below (λ i. not (eqb (get_or l i absent).identity 0)) (length l)
unfolding count_below
counted-places [] = refl
counted-places (s ∷ l) =
    let h = counted-places l in
    let c = count_shift (λ i. not (eqb (get_or (s ∷ l) i absent).identity 0)) (length l) in
    on (tested (is_empty s))
    (λ e.
    let a = chosen {a = counted l} (suc (counted l)) e in
    let b : ◌≡◌ {A = ℕ} (choose (not (is_empty s)) 1 0) 0 = other 1 (ap not e) in
    omega (arith, a, b, c, h))
    (λ e.
    let a = other {b = suc (counted l)} (counted l) e in
    let b : ◌≡◌ {A = ℕ} (choose (not (is_empty s)) 1 0) 1 = chosen 0 (ap not e) in
    omega (arith, a, b, c, h))

module _ (t : Table) (n : ℕ) (taken : fresh_refusal t n ≡ 0) where
  neat : Neat t
  neat = is-neat t (table-opened t n taken)

  -- the fresh channel, with the servers of the table as they are
  abbrev first : State
  first = record { frame = 0; period = record { frames = n }; servers = t.servers; whole = replicate (most * most) true }

  -- n is a period, and no less than the servers
  is-period : (take_period n).number ≡ 0
  unfolding fresh_refusal
  is-period =
      on (equal (take_period n).number 0)
      (λ e. e)
      (λ e. absurd (let q = sym (other {b = 2} _ (and_right (is_table t.servers) (ne_eqb (take_period n).number 0 e))) ∙ taken in omega (arith, q)))

  least : 2 ≤ n
  unfolding take_period
  least =
      on (tested (leb least_period n && leb n greatest_period))
      (λ e. leb-true 2 n (fst_true (leb least_period n) (leb n greatest_period) e))
      (λ e.
      let q : ◌≡◌ {A = ℕ} 2 0 = sym (ap (λ (a : Answer). a.number) (other {b = refused 2} (accepted (n ∷ [])) e)) ∙ is-period in
      absurd (omega (arith, q)))

  room : counted t.servers ≤ n
  unfolding fresh_refusal
  room =
      let a = sym (chosen {a = choose (eqb (counted t.servers) 0) 6 (choose (ltb n (counted t.servers)) 7 0)} 2 (and_true (table-opened t n taken) (eq-eqb (take_period n).number 0 is-period))) ∙ taken in
      let b = not_first (λ (k : ℕ). k ≡ 0) (eqb (counted t.servers) 0) a (λ z. omega arith) in
      let d = not_first (λ (k : ℕ). k ≡ 0) (ltb n (counted t.servers)) b.1 (λ z. omega arith) in
      ltb-false n (counted t.servers) d.0

  new-at : (i : ℕ) → New (place first i)
  unfolding New
  new-at i = every-at neat.new (inl refl) i

  still : (s : Server) → New s → is_active s.role ≡ false
  unfolding New is_active
  still s h = on h (λ e. ap (λ (x : Server). is_active x.role) e) (λ r. ap (λ (x : Server). is_active x.role) r.3)

  quiet : (s : Server) → New s → sent_any s ≡ false
  unfolding New sent_any choose
  quiet s h = on h (λ e. ap sent_any e) (λ r. ap sent_any r.3)

  unset : (s : Server) → New s → (s.silence ≡ 0) × (s.beat ≡ 0) × (s.prospect ≡ 0)
  unfolding New
  unset s h =
      on h
      (λ e. (ap (λ (x : Server). x.silence) e, ap (λ (x : Server). x.beat) e, ap (λ (x : Server). x.prospect) e))
      (λ r. (ap (λ (x : Server). x.silence) r.3, ap (λ (x : Server). x.beat) r.3, ap (λ (x : Server). x.prospect) r.3))

  sound-first : Sound first
  sound-first =
      record {
        long = neat.long;
        linked = length-replicate (most * most) true;
        period = let l = least in omega arith;
        young = λ i l.
            let s = place first i in
            let a = still s (new-at i) in
            let u = unset s (new-at i) in
            record {
              silence-past = let z = u.0 in omega arith;
              beat-past = let z = u.1 in omega arith;
              prospect_past = let z = u.2 in omega arith;
              silence-young = λ q. absurd (clash (ways.backup_active q) a);
              beat-young = λ q. absurd (clash (ways.beating-active s.role q) a);
              prospect_young = λ q. absurd (clash (ways.beating-active s.role (ways.prospect_beats q)) a);
            };
        seated = λ i l a z. clash a (still (place first i) (new-at i));
        silent = λ i l z. quiet (place first i) (new-at i);
        unpassed = λ i l b.
            absurd (clash (ways.beating-active (place first i).role b) (still (place first i) (new-at i)));
        apart = λ i j h l d z e.
            let g = neat.long in rising-apart t.servers neat.rising i j (omega arith) (omega arith) d z e;
        fits =
            let l = room in
            let e = counted-places t.servers in
            let k = ap (count_below (seated_in first)) neat.long in
            omega (arith, l, e, k);
      }

  pub sound-fresh : Sound (fresh t n)
  sound-fresh =
      subst Sound
      (ap (λ (l : List Server). record { frame = 0; period = record { frames = n }; servers = l; whole = replicate (most * most) true }) (sym (fresh_has_its_table t n taken).1))
      sound-first
