-- What verbs do. Assumes nothing.
use Rattle.std.specs.Prelude.{Result, Ok, Err}
use mathlib.Core.Bool.{Bool, true, false, not, ◌&&◌}
use mathlib.Core.Path.{◌≡◌, refl, sym, ap, ap₂, subst, ◌∙◌}
use mathlib.Core.List.{List, []}
use Prim.{tt}
use Prim.Native.Nat.{ℕ, ◌+◌, ◌%◌, ◌≤◌, ◌<◌}
use native.Mathlib.Nat.{mod-eq_of_lt}
use native.Mathlib.Omega.{arith}
use borrow.Author.Tests.{ltb-true, lt-leb, eqb-true, eq-eqb, ne_eqb}
use lib.Dec.{eqb, ltb}
use lib.ListN.{length, set}
use lib.Seq.{set-get_or}
use Rattle.lists.specs.Choice.{choose}
use Rattle.lists.proofs.Cases.{tested, on, chosen, other, not_first, fst_true, snd_true}
use Rattle.refusal.specs.declared.Refusal.{Refusal}
use Rattle.refusal.specs.declared.Refusal.TheVariants.{Short}
use Rattle.refusal.specs.Answer.{of_verdict, number_of}
use Rattle.refusal.proofs.Answers.{number-some}
use Rattle.server.specs.declared.Server.{Server}
use Rattle.roles.specs.declared.Event.TheVariants as event
use Rattle.periods.specs.declared.Period.{Period}
use Rattle.roles.specs.declared.Verb.{Verb}
use Rattle.roles.specs.declared.Verb.TheVariants.{Start, Ready, Unready, Pass, Crash, Restart, Cut, Mend}
use Rattle.roles.specs.declared.Word.TheVariants as word
use Rattle.roles.specs.declared.Said.{Said}
use Rattle.roles.specs.declared.Said.TheVariants as says
use Rattle.server.specs.Server.{after}
use Rattle.roles.specs.Verbs.{paired, verb_happens}
use Rattle.server.specs.Verbs.{verb_answer}
use Rattle.roles.specs.Words.{said}
use Rattle.lines.specs.Lines.{lines_of, Says}
use Rattle.frame.proofs.Writing.{says-out}
use Rattle.frame.proofs.Telling.{within, beyond}
use Rattle.group.specs.declared.State.{State}
use Rattle.group.specs.Outcome.{Outcome, number_in, channel_in}
use Rattle.group.specs.Answers.{Gives}
use Rattle.group.specs.Table.{most}
use Rattle.group.specs.Hearing.{place, link_of, whole}
use Rattle.group.specs.Verbs.{place_of, names_nobody, known, state_refusal, verb_refusal, links_after, verb_said, did, verb_outcome}
use Rattle.group.proofs.Answering.{is-short, is-long, gives-not, gives-refused, gives_so}
use Rattle.places.specs.Words.{servers_of, Keeps}
use Rattle.places.proofs.Canonical.{becomes}
use Rattle.frame.specs.Answers.{state_of, verdict_of, bytes_of}
use Rattle.verbs.specs.Answers.{Acts}
use Rattle.verbs.specs.declared.Deed.{Deed}
use Rattle.verbs.specs.declared.Made.{Made}
use Rattle.verbs.specs.Steps.{known_at, state_number, link_after, Makes, Does, Tells, put, Decided}

-- a test joined with one that holds
pub and_rest : (t : Bool) → (t && true) ≡ t
and_rest true = refl
and_rest false = refl

-- ---- the server and the link of a verb

-- a server to which nothing happens, whether a verb of its link is allowed or not
nothing : (t : ℕ) (s : Server) (x : Bool) → s ≡ after t s (choose x event.Nothing event.Nothing)
unfolding choose after
nothing t s true = refl
nothing t s false = refl

pub swapped : (w : Bool) (x y : ℕ) → choose (not w) x y ≡ choose w y x
unfolding choose
swapped true x y = refl
swapped false x y = refl

module _ {t b : ℕ} {s : Server} where
  pub cut_makes : {w : Bool} → Makes t Cut b s w (record { said = says.One word.Cut; server = s; link = false })
  unfolding verb_happens
  cut_makes = record { told = refl; server = nothing t s _; link = refl }

  pub mend_makes : {w : Bool} → Makes t Mend b s w (record { said = says.One word.Mended; server = s; link = true })
  unfolding verb_happens
  mend_makes = record { told = refl; server = nothing t s _; link = refl }

-- the other verbs, one by one

pub others_make :
    {t b : ℕ} {s : Server} {w : Bool} (v : Verb) {r : Deed} → (v ≡ Cut → ⊥) → (v ≡ Mend → ⊥) → r.said ≡ said (verb_happens v b (verb_answer v b s)) →
    r.server ≡ after t s (verb_happens v b (verb_answer v b s)) → r.link ≡ w → Makes t v b s w r
others_make Start not_cut not_mend e s l = record { told = e; server = s; link = l }
others_make Ready not_cut not_mend e s l = record { told = e; server = s; link = l }
others_make Unready not_cut not_mend e s l = record { told = e; server = s; link = l }
others_make Pass not_cut not_mend e s l = record { told = e; server = s; link = l }
others_make Crash not_cut not_mend e s l = record { told = e; server = s; link = l }
others_make Restart not_cut not_mend e s l = record { told = e; server = s; link = l }
others_make Cut not_cut not_mend e s l = absurd (not_cut refl)
others_make Mend not_cut not_mend e s l = absurd (not_mend refl)

pub others_number : (b : ℕ) (s : Server) (w : Bool) (v : Verb) → (v ≡ Cut → ⊥) → (v ≡ Mend → ⊥) → state_number v b s w ≡ (verb_answer v b s).number
others_number b s w Start not_cut not_mend = refl
others_number b s w Ready not_cut not_mend = refl
others_number b s w Unready not_cut not_mend = refl
others_number b s w Pass not_cut not_mend = refl
others_number b s w Crash not_cut not_mend = refl
others_number b s w Restart not_cut not_mend = refl
others_number b s w Cut not_cut not_mend = absurd (not_cut refl)
others_number b s w Mend not_cut not_mend = absurd (not_mend refl)

-- ---- an answer that is one of the two

same_ok : {T : Type 0} {m n : T} → ◌≡◌ {A = Result T Refusal} (Ok m) (Ok n) → m ≡ n
same_ok e = cc

same_err : {T : Type 0} {j k : Refusal} → ◌≡◌ {A = Result T Refusal} (Err j) (Err k) → j ≡ k
same_err e = cc

pub ok_or_err : {A T : Type 0} {m : T} {k : Refusal} → ◌≡◌ {A = Result T Refusal} (Ok m) (Err k) → A
ok_or_err e = let z : ◌≡◌ {A = ℕ} 0 1 = cc in absurd (omega arith)

module _ {t b : ℕ} {s : Server} {w : Bool} {v : Verb} where
  pub does-not : {k : Refusal} → state_number v b s w ≡ number_of k → Does t v b s w (Err k)
  does-not e = record { allowed = λ m h. ok_or_err (sym h); refused = λ j h. e ∙ ap number_of (same_err h) }

  pub does_so : {e : Deed} → state_number v b s w ≡ 0 → Makes t v b s w e → Does t v b s w (Ok e)
  does_so z q = record { allowed = λ m h. (z, subst (Makes t v b s w) (same_ok h) q); refused = λ k h. ok_or_err h }

-- ---- lines said once

module _ (c : State) (o : Outcome) {d : List ℕ} where
  -- what a call gives, but for the channel
  pub told : {v : Result (Unit {0}) Refusal} {n : ℕ} {x : State} {d' : List ℕ} → Gives c o d v n x d' → Gives c o d v n (channel_in c o (length d)) d'
  told g = record { number = g.number; written = g.written; channel = refl; slice = g.slice }

  module _ {d' : List ℕ} {r : ℕ} (e : o.number ≡ 0) (q : Says true d 0 o.lines r d') where
    pub told-short : length d < r → Gives c o d (Err Short) 0 (channel_in c o (length d)) d'
    told-short h =
        let long = beyond (says-out q) h in
        rw (q.slice ∙ other _ (lt-leb (0 + length o.lines) (length d) (omega (arith, long)))) (told (gives-not c o d Short (is-short o (length d) e long)))

    pub told-all : r ≤ length d → Gives c o d (Ok tt) r (channel_in c o (length d)) d'
    told-all h =
        let fit = within (says-out q) h in
        told (gives_so c o d (is-long o (length d) e fit.0) fit.1 refl ((says-out q).is refl (omega (arith, fit.0))))

  -- the channel by the verdict
  module _ {v : Result (Unit {0}) Refusal} {n : ℕ} {d' : List ℕ} (g : Gives c o d v n (channel_in c o (length d)) d') where
    as_allowed : {x : State} → v ≡ Ok tt → (o.number ≡ 0 → o.channel ≡ x) → Gives c o d v n x d'
    unfolding number_in channel_in
    as_allowed h f =
        let z : number_in o (length d) ≡ 0 = sym g.number ∙ ap of_verdict h in
        let none = on (tested (eqb o.number 0)) (λ t. eqb-true _ _ t) (λ t. sym (other _ t) ∙ z) in
        record { number = g.number; written = g.written; channel = sym (chosen _ (eq-eqb _ 0 z) ∙ f none); slice = g.slice }

    as_refused : {x : State} {k : Refusal} → v ≡ Err k → x ≡ c → Gives c o d v n x d'
    unfolding channel_in
    as_refused {x} {k} h f =
        let z : number_in o (length d) ≡ number_of k = sym g.number ∙ ap of_verdict h in
        record { number = g.number; written = g.written; channel = f ∙ sym (other _ (ne_eqb (number_in o (length d)) 0 (λ y. omega (arith, number-some k)))); slice = g.slice }

-- ---- the whole verb

state-same :
    (c : State) (v : Verb) (a b : ℕ) {i j : ℕ} → i ≡ place_of c a → (paired v ≡ true → j ≡ place_of c b) →
    state_number v b (place c i) (whole c i j) ≡ state_refusal c v a b
unfolding state_refusal
state-same c Start a b p q = ap (λ (x : ℕ). (verb_answer Start b (place c x)).number) p
state-same c Ready a b p q = ap (λ (x : ℕ). (verb_answer Ready b (place c x)).number) p
state-same c Unready a b p q = ap (λ (x : ℕ). (verb_answer Unready b (place c x)).number) p
state-same c Pass a b p q = ap (λ (x : ℕ). (verb_answer Pass b (place c x)).number) p
state-same c Crash a b p q = ap (λ (x : ℕ). (verb_answer Crash b (place c x)).number) p
state-same c Restart a b p q = ap (λ (x : ℕ). (verb_answer Restart b (place c x)).number) p
state-same c Cut a b p q = ap₂ (λ (x y : ℕ). choose (whole c x y) 0 15) p (q refl)
state-same c Mend a b p q = ap₂ (λ (x y : ℕ). choose (whole c x y) 15 0) p (q refl)

links-same :
    (c : State) (v : Verb) (a b : ℕ) {i j : ℕ} → i ≡ place_of c a → (paired v ≡ true → j ≡ place_of c b) →
    set c.whole (link_of i j) (link_after v (whole c i j)) ≡ links_after v (link_of (place_of c a) (place_of c b)) c.whole
links-same c Start a b p q = set-get_or c.whole _ false
links-same c Ready a b p q = set-get_or c.whole _ false
links-same c Unready a b p q = set-get_or c.whole _ false
links-same c Pass a b p q = set-get_or c.whole _ false
links-same c Crash a b p q = set-get_or c.whole _ false
links-same c Restart a b p q = set-get_or c.whole _ false
links-same c Cut a b p q = ap₂ (λ (x y : ℕ). set c.whole (link_of x y) false) p (q refl)
links-same c Mend a b p q = ap₂ (λ (x y : ℕ). set c.whole (link_of x y) true) p (q refl)

-- x and y are the places of the identities, the second where the verb has one
module _ (c : State) (v : Verb) (a b : ℕ) {x y : ℕ} (p : x ≡ place_of c a) (q : y ≡ choose (paired v) (place_of c b) 0) where
  pub known_by : known_at v a b x y ≡ known c v a b
  unfolding known choose
  known_by = ap₂ (λ (x y : ℕ). known_at v a b x y) p q ∙ ap (λ (t : Bool). ltb (place_of c a) most && t) (by (paired v))
    where
      by : (t : Bool) → choose t (ltb (choose t (place_of c b) 0) most && not (eqb a b)) true ≡ choose t (ltb (place_of c b) most && not (eqb a b)) true
      by true = refl
      by false = refl

  module _ (e : known c v a b ≡ true) where
    first-at : x % most ≡ place_of c a
    unfolding known
    first-at = ap (λ (n : ℕ). n % most) p ∙ mod-eq_of_lt (ltb-true _ _ (fst_true (ltb (place_of c a) most) _ e))

    second_at : paired v ≡ true → y % most ≡ place_of c b
    unfolding known
    second_at t =
        ap (λ (n : ℕ). n % most) (q ∙ chosen 0 t)
        ∙ mod-eq_of_lt (ltb-true _ _ (fst_true (ltb (place_of c b) most) _ (sym (chosen true t) ∙ snd_true (ltb (place_of c a) most) _ e)))

  -- a verb without a number has its identities in the table
  has-places : verb_refusal c v a b ≡ 0 → known c v a b ≡ true
  unfolding verb_refusal
  has-places z =
      let r = (not_first (λ (n : ℕ). n ≡ 0) (names_nobody v a b) z (λ h. omega arith)).1 in
      on (tested (known c v a b)) (λ e. e) (λ e. absurd (let k : 8 ≡ 0 = sym (other _ e) ∙ r in omega arith))

  judged :
      {n : ℕ} → n ≡ state_number v b (place c (x % most)) (whole c (x % most) (y % most)) →
      verb_refusal c v a b ≡ choose (names_nobody v a b) 2 (choose (known_at v a b x y) n 8)
  unfolding verb_refusal
  judged {n} m =
      ap (λ (k : ℕ). choose (names_nobody v a b) 2 k)
      (on (tested (known c v a b))
      (λ e. chosen _ e ∙ sym (chosen 8 (known_by ∙ e) ∙ m ∙ state-same c v a b (first-at e) (second_at e)))
      (λ e. other _ e ∙ sym (other n (known_by ∙ e))))

  -- 2 or 8
  pub judged_not : {n : ℕ} → n ≡ choose (names_nobody v a b) 2 (choose (known_at v a b x y) 0 8) → 0 < n → verb_refusal c v a b ≡ n
  unfolding verb_refusal
  judged_not {n} m h =
      on (tested (names_nobody v a b))
      (λ e. chosen _ e ∙ sym (m ∙ chosen _ e))
      (λ e.
      on (tested (known c v a b))
      (λ f. absurd (let z : n ≡ 0 = m ∙ other _ e ∙ chosen 8 (known_by ∙ f) in omega arith))
      (λ f. other _ e ∙ other _ f ∙ sym (m ∙ other _ e ∙ other 0 (known_by ∙ f))))

  -- neither: what the state says
  module _ (z : ◌≡◌ {A = ℕ} 0 (choose (names_nobody v a b) 2 (choose (known_at v a b x y) 0 8))) where
    pub says_state : verb_refusal c v a b ≡ state_number v b (place c (x % most)) (whole c (x % most) (y % most))
    says_state =
        let n = state_number v b (place c (x % most)) (whole c (x % most) (y % most)) in
        let f = not_first (λ (k : ℕ). k ≡ 0) (names_nobody v a b) (sym z) (λ h. omega arith) in
        let g = on (tested (known_at v a b x y)) (λ t. t) (λ t. absurd (let k : 8 ≡ 0 = sym (other 0 t) ∙ f.1 in omega arith)) in
        judged {n = n} refl ∙ other _ f.0 ∙ chosen 8 g

  pub verb_refused : {k : Refusal} {d : List ℕ} → verb_refusal c v a b ≡ number_of k → Decided c v a b x y d (Err k) d
  verb_refused {k} {d} e =
      record {
        allowed = λ m h. ok_or_err (sym h);
        refused = λ j h. subst (λ (i : Refusal). Gives c (verb_outcome c v a b) d (Err i) 0 c d) (same_err h) (gives-refused c (verb_outcome c v a b) d k e);
      }

  module _ {d d' : List ℕ} {e : Deed} (r : Result ℕ Refusal) (z : verb_refusal c v a b ≡ 0) (w : Makes c.frame v b (place c (x % most)) (whole c (x % most) (y % most)) e)
      (g : Tells (lines_of c.frame a e.said) d r d') where
    gives : Gives c (verb_outcome c v a b) d (verdict_of r) (bytes_of r) (channel_in c (verb_outcome c v a b) (length d)) d'
    gives =
        g c (verb_outcome c v a b) z
        (ap (λ (h : ℕ). lines_of c.frame a (verb_said v (verb_happens v b (verb_answer v b (place c h))))) (sym (first-at (has-places z)))
        ∙ sym (ap (lines_of c.frame a) w.told))

    pub verb_decided : {n : ℕ} → r ≡ Ok n → Decided c v a b x y d (Ok (record { written = n; server = e.server; link = e.link })) d'
    unfolding did
    verb_decided {n} f =
        let k = has-places z in
        let l = first-at k in
        let q =
        as_allowed c (verb_outcome c v a b) gives (ap verdict_of f)
        (λ y'.
        sym (ap₂ (λ (u : List Server) (t : List Bool). record { frame = c.frame; period = c.period; servers = u; whole = t })
        (ap (set c.servers (x % most)) w.server ∙ ap (λ (i : ℕ). set c.servers i (after c.frame (place c i) (verb_happens v b (verb_answer v b (place c i))))) l)
        (ap (set c.whole (link_of (x % most) (y % most))) w.link ∙ links-same c v a b l (second_at k)))) in
        record {
          allowed =
              λ m h.
              subst (λ (i : Made). Gives c (verb_outcome c v a b) d (Ok tt) i.written (put c (x % most) (y % most) i.server i.link) d') (same_ok h)
              (subst (λ (i : Result ℕ Refusal). Gives c (verb_outcome c v a b) d (verdict_of i) (bytes_of i) (put c (x % most) (y % most) e.server e.link) d') f q);
          refused = λ j h. ok_or_err h;
        }

    pub verb_short : {k : Refusal} → r ≡ Err k → Decided c v a b x y d (Err k) d'
    verb_short {k} f =
        let q = as_refused c (verb_outcome c v a b) gives (ap verdict_of f) refl in
        record {
          allowed = λ m h. ok_or_err (sym h);
          refused =
              λ j h.
              subst (λ (i : Refusal). Gives c (verb_outcome c v a b) d (Err i) 0 c d') (same_err h)
              (subst (λ (i : Result ℕ Refusal). Gives c (verb_outcome c v a b) d (verdict_of i) (bytes_of i) c d') f q);
        }

-- an attempt on a server and a link that are those of the channel
pub does_as :
    {t u : ℕ} {v : Verb} {b : ℕ} {s x : Server} {w y : Bool} {e : Result Deed Refusal} → u ≡ t → s ≡ x → w ≡ y → Does t v b s w e → Does u v b x y e
does_as {t} {u} {v} {b} {s} {x} {w} {y} {e} p q h f =
    subst (λ (n : ℕ). Does n v b x y e) (sym p) (subst (λ (z : Server). Does t v b z y e) q (subst (λ (z : Bool). Does t v b s z e) h f))

pub tells_as : {t u : ℕ} (a : ℕ) (k : Said) {d : List ℕ} (r : Result ℕ Refusal) {d' : List ℕ} → u ≡ t → Tells (lines_of t a k) d r d' → Tells (lines_of u a k) d r d'
tells_as {t} {u} a k {d} r {d'} p g = subst (λ (m : ℕ). Tells (lines_of m a k) d r d') (sym p) g

-- ---- the answer

module _ {t : ℕ} {w : List ℕ} {l : List Bool} {v : Verb} {a b : ℕ} {d : List ℕ} {r : Result ℕ Refusal} {w' : List ℕ} {l' : List Bool} {d' : List ℕ} where
  pub acted :
      Keeps w w' →
      ((p : Period) →
      Gives (state_of t p (servers_of w) l) (verb_outcome (state_of t p (servers_of w) l) v a b) d (verdict_of r) (bytes_of r) (state_of t p (servers_of w') l') d') →
      ((k : Refusal) → r ≡ Err k → (w' ≡ w) × (l' ≡ l)) → Acts t w l v a b d r w' l' d'
  acted k g f = record { gives = g; words = λ p. becomes k (ap (λ (c : State). c.servers) (g p).channel); same = f }
