-- The premises can be met: lists are wired, heartbeats come in any order, days are read. Assumes
-- nothing.
use mathlib.Core.Bool.{true, not}
use mathlib.Core.Path.{◌≡◌, refl, sym, ap, ap₂, subst, ◌∙◌}
use mathlib.Core.Logic.{◌⊎◌, inl, inr}
use mathlib.Core.List.{List, [], ◌∷◌, ◌++◌, Memᴰ}
use Prim.Native.Nat.{ℕ, suc}
use borrow.Author.Tests.{ne_eqb}
use lib.Dec.{leb, eqb}
use Rattle.lists.proofs.Cases.{tested, equal, other, and_true, on}
use Rattle.group.specs.declared.Table.{Table}
use Rattle.group.specs.declared.State.{State}
use Rattle.group.specs.Table.{empty, is_table, add_refusal, added, fresh_refusal, fresh}
use Rattle.group.specs.Hearing.{inbox}
use Rattle.group.specs.Calls.{call_channel, channel_after}
use Rattle.group.proofs.Made.{table_empty, table-added}
use Rattle.day.specs.Read.{DayLine, wrong, period, server, entry, end, lines_in, line_read}
use Rattle.day.specs.Day as day
use Rattle.day.specs.Day.{Day, atServers, Effect, stop, last_line, effect_of, line_effect, add_effect, opening}
use Rattle.day.specs.Sheet.{header, input_refusal, sheet_from, sheet}
use Rattle.reached.proofs.Sound.{Sound}
use Rattle.reached.proofs.Made.{sound-fresh}
use Rattle.reached.proofs.Reached.{sound-call, sound-after}
use Rattle.wiring.specs.Heard.{Group, Heard}
use Rattle.wiring.specs.Group as group
use Rattle.wiring.specs.Group.{Move, move_number, moved, WiredIn, Wired}
use Rattle.wiring.specs.Same.{group_of, call_of, calls_of, asked, CanBeWired, ListsCanBeWired, AnyOrderComes, InactiveHearAnything}
use Rattle.wiring.specs.Days.{stops_beyond, is_entry, AddsAll, none, next, DayRead, opened, refused, DaysAreRead}
use Rattle.wiring.specs.Settles.{entries_refused, FramesMayFollow, RefusedMayFollow}
use Rattle.wiring.proofs.Sorting.{of-from, to-from}
use Rattle.wiring.proofs.Inboxes.{inbox-heard}
use Rattle.wiring.proofs.Moves.{moved-is, new-agrees}
use Rattle.wiring.proofs.Days.{sheet-stop, sheet-go, effect_early, effect_late, beyond-is, its_table, add_taken}

-- ---- lists of moves

-- the move k where each place hears its inbox
abbrev heard_in : State → Move → Move
heard_in c (group.frame hear) = group.frame (inbox c)
heard_in c (group.entry v a b) = group.entry v a b

same_asked : (c : State) (k : Move) → asked (heard_in c k) ≡ asked k
same_asked c (group.frame hear) = refl
same_asked c (group.entry v a b) = refl

wired_in : (c : State) (k : Move) → Sound c → WiredIn (group_of c) (heard_in c k)
wired_in c (group.frame hear) sound = λ day j s. inbox-heard c sound j
wired_in c (group.entry v a b) sound = tt

wires : (c : State) (ks : List Move) → Sound c → CanBeWired (group_of c) ks
wires c [] sound = record { moves = []; same = refl; wired = group.none }
wires c (k ∷ ks) sound =
    let q = heard_in c k in
    let w = wired_in c k sound in
    let r = wires (call_channel c (call_of c q)) ks (sound-call c (call_of c q) sound) in
    record {
      moves = q ∷ r.moves;
      same = ap₂ (λ (x : Move) (l : List Move). x ∷ l) (same_asked c k) r.same;
      wired = group.next w (subst (λ (g : Group). Wired g r.moves) (sym (moved-is c q sound w)) r.wired);
    }

pub lists_can_be_wired : ListsCanBeWired
lists_can_be_wired t n ks ms ok w =
    let c = fresh t n in
    subst (λ (g : Group). CanBeWired g ms) (sym (new-agrees t n ks ok w).group) (wires (channel_after c (calls_of c ks)) ms (sound-after c (calls_of c ks) (sound-fresh t n ok)))

-- ---- any order of senders

pub any_order_comes : AnyOrderComes
any_order_comes g j hs ks e c =
    record {
      each = λ i s. e _ ∙ c.each i s;
      known = λ h m. c.known h (of-from h.tiebreaker hs (subst (Memᴰ h) (e h.tiebreaker) (to-from ks m)));
    }

pub inactive_hear_anything : InactiveHearAnything
inactive_hear_anything g hear other same w = λ day j m. subst (Heard g j) (same j m.1) (w day j m)

-- ---- frames alone, and refused entries

pub frames_may_follow : FramesMayFollow
unfolding entries_refused
frames_may_follow g [] = refl
frames_may_follow g (h ∷ hs) = and_true refl (frames_may_follow (moved g (group.frame h)) hs)

pub refused_may_follow : RefusedMayFollow
unfolding entries_refused moved
refused_may_follow g v a b ms n e =
    let k = group.entry v a b in
    let t = ne_eqb (move_number g k) 0 n in
    and_true (ap not t) (ap (λ (x : Group). entries_refused x ms) (other _ t) ∙ e)

-- ---- days

pub record Opened (t : Table) (n : ℕ) (ls : List (List ℕ)) : Type 0 where
  pub servers : List (List ℕ)
  pub table : Table
  pub entries : List ℕ
  pub more : List (List ℕ)
  pub lines : ls ≡ servers ++ (entries ∷ more)
  pub adds : AddsAll t servers table
  pub entry : is_entry (line_read entries) ≡ true
  pub taken : fresh_refusal table n ≡ 0

pub record Refused (w : List ℕ) : Type 0 where
  pub line : ℕ
  pub number : ℕ
  pub is : w ≡ input_refusal line number

add_refused : (t : Table) (n i p : ℕ) → is_table t.servers ≡ true → (add_refusal t i ≡ 0 → ⊥) → add_effect (fresh t n) i p ≡ stop (add_refusal t i)
unfolding add_effect
add_refused t n i p ok e =
    let same = its_table t n ok in
    other _ (ap (λ (u : Table). eqb (add_refusal u i) 0) same ∙ ne_eqb (add_refusal t i) 0 e) ∙ ap (λ (u : Table). stop (add_refusal u i)) same

open_stops : (c : State) (s : Effect) → (fresh_refusal (day.table_of c) c.period.frames ≡ 0 → ⊥) → opening c s ≡ stop (fresh_refusal (day.table_of c) c.period.frames)
unfolding opening
open_stops c s e = rw (ne_eqb (fresh_refusal (day.table_of c) c.period.frames) 0 e, opening)

open_refused : (t : Table) (n : ℕ) (s : Effect) → is_table t.servers ≡ true → (fresh_refusal t n ≡ 0 → ⊥) → opening (fresh t n) s ≡ stop (fresh_refusal t n)
open_refused t n s ok e =
    let same = its_table t n ok in
    open_stops (fresh t n) s (λ z. e (sym (ap (λ (u : Table). fresh_refusal u n) same) ∙ z)) ∙ ap (λ (u : Table). stop (fresh_refusal u n)) same

-- one line, where those behind it are read
module _ (k : ℕ) (t : Table) (n : ℕ) (ok : is_table t.servers ≡ true) (l : List ℕ) (ls : List (List ℕ)) (rest : (i p : ℕ) → add_refusal t i ≡ 0 → Opened (added t i p) n ls ⊎ Refused (sheet_from (suc k) (day.on atServers (fresh (added t i p) n)) ls)) where
  abbrev d : Day
  d = day.on atServers (fresh t n)

  stopped : (m : ℕ) → effect_of k d (line_read l) ≡ stop m → Opened t n (l ∷ ls) ⊎ Refused (sheet_from k d (l ∷ ls))
  stopped m e = inr (record { line = k; number = m; is = sheet-stop k m d l ls e })

  begins : leb k last_line ≡ true → (r : DayLine) → line_read l ≡ r → is_entry r ≡ true → ((fresh_refusal t n ≡ 0 → ⊥) → line_effect d r ≡ stop (fresh_refusal t n)) → Opened t n (l ∷ ls) ⊎ Refused (sheet_from k d (l ∷ ls))
  begins q r e i f =
      on (equal (fresh_refusal t n) 0)
      (λ z. inl (record { servers = []; table = t; entries = l; more = ls; lines = refl; adds = none; entry = ap is_entry e ∙ i; taken = z }))
      (λ z. stopped (fresh_refusal t n) (ap (effect_of k d) e ∙ effect_early k d r q ∙ f z))

  in_time : leb k last_line ≡ true → (r : DayLine) → line_read l ≡ r → Opened t n (l ∷ ls) ⊎ Refused (sheet_from k d (l ∷ ls))
  unfolding is_entry
  in_time q (wrong m) e = stopped m (ap (effect_of k d) e ∙ effect_early k d (wrong m) q)
  in_time q (period p) e = stopped 4 (ap (effect_of k d) e ∙ effect_early k d (period p) q)
  in_time q (server i p) e =
      on (equal (add_refusal t i) 0)
      (λ z.
      on (rest i p z)
      (λ o.
      inl
      (record {
        servers = l ∷ o.servers;
        table = o.table;
        entries = o.entries;
        more = o.more;
        lines = ap (λ (x : List (List ℕ)). l ∷ x) o.lines;
        adds = next e z o.adds;
        entry = o.entry;
        taken = o.taken;
      }))
      (λ x.
      inr
      (record {
        line = x.line;
        number = x.number;
        is = sheet-go k d (day.on atServers (fresh (added t i p) n)) [] l ls (ap (effect_of k d) e ∙ effect_early k d (server i p) q ∙ add_taken t n i p z) ∙ x.is;
      })))
      (λ z. stopped (add_refusal t i) (ap (effect_of k d) e ∙ effect_early k d (server i p) q ∙ add_refused t n i p ok z))
  in_time q (entry x v a b) e = begins q (entry x v a b) e refl (λ z. open_refused t n _ ok z)
  in_time q (end x) e = begins q (end x) e refl (λ z. open_refused t n _ ok z)

  one_line : Opened t n (l ∷ ls) ⊎ Refused (sheet_from k d (l ∷ ls))
  one_line =
      on (tested (leb k last_line)) (λ q. in_time q (line_read l) refl)
      (λ q. stopped (stops_beyond (line_read l)) (effect_late k d (line_read l) q ∙ beyond-is (line_read l)))

servers-read : (k : ℕ) (t : Table) (n : ℕ) (ls : List (List ℕ)) → is_table t.servers ≡ true → Opened t n ls ⊎ Refused (sheet_from k (day.on atServers (fresh t n)) ls)
unfolding sheet_from
servers-read k t n [] ok = inr (record { line = k; number = 4; is = refl })
servers-read k t n (l ∷ ls) ok = one_line k t n ok l ls (λ i p z. servers-read (suc k) (added t i p) n ls (table-added t i p z))

pub days_are_read : DaysAreRead
unfolding sheet sheet_from
days_are_read s = lines (lines_in s) refl
  where
    prints : (ls : List (List ℕ)) (k m : ℕ) → lines_in s ≡ ls → sheet_from 1 day.begin ls ≡ input_refusal k m → DayRead s
    prints ls k m e f = refused k m (ap (λ (x : List (List ℕ)). header ++ sheet_from 1 day.begin x) e ∙ ap (λ (x : List ℕ). header ++ x) f)

    first : (l : List ℕ) (ls : List (List ℕ)) (r : DayLine) → lines_in s ≡ l ∷ ls → line_read l ≡ r → DayRead s
    first l ls (wrong m) e q = prints (l ∷ ls) 1 m e (sheet-stop 1 m day.begin l ls (ap (effect_of 1 day.begin) q ∙ effect_early 1 day.begin (wrong m) refl))
    first l ls (period n) e q =
        on (servers-read 2 empty n ls table_empty)
        (λ o.
        opened
        (record {
          first = l;
          servers = o.servers;
          entries = o.entries;
          more = o.more;
          bytes = e ∙ ap (λ (x : List (List ℕ)). l ∷ x) o.lines;
          begins = refl;
          period = q;
          table = o.adds;
          entry = o.entry;
          taken = o.taken;
          line = refl;
        }))
        (λ x.
        prints (l ∷ ls) x.line x.number e
        (sheet-go 1 day.begin (day.on atServers (fresh empty n)) [] l ls (ap (effect_of 1 day.begin) q ∙ effect_early 1 day.begin (period n) refl) ∙ x.is))
    first l ls (server i p) e q = prints (l ∷ ls) 1 4 e (sheet-stop 1 4 day.begin l ls (ap (effect_of 1 day.begin) q ∙ effect_early 1 day.begin (server i p) refl))
    first l ls (entry t v a b) e q = prints (l ∷ ls) 1 4 e (sheet-stop 1 4 day.begin l ls (ap (effect_of 1 day.begin) q ∙ effect_early 1 day.begin (entry t v a b) refl))
    first l ls (end t) e q = prints (l ∷ ls) 1 4 e (sheet-stop 1 4 day.begin l ls (ap (effect_of 1 day.begin) q ∙ effect_early 1 day.begin (end t) refl))

    lines : (ls : List (List ℕ)) → lines_in s ≡ ls → DayRead s
    lines [] e = prints [] 1 4 e refl
    lines (l ∷ ls) e = first l ls (line_read l) e refl
