use mathlib.Core.Bool.{Bool, true, false, not, ◌&&◌, ◌||◌}
use mathlib.Core.List.{List, []}
use mathlib.Core.Path.{◌≡◌, refl, ap, subst}
use Prim.Native.Nat.{ℕ, ◌+◌, ◌≤◌, ◌<◌}
use native.Mathlib.Omega.{arith}
use borrow.Author.Rules.{rules}
use borrow.Author.Tests.{lt-ltb, le-ltb}
use lib.Dec.{ltb}
use lib.ListN.{length, get_or, set}
use Rattle.lists.proofs.Cases.{and_true, and_left, and_right}
use Rattle.feeding.specs.Fed.{Fed}
use Rattle.feeding.proofs.Taking.{Taking, begins, room, turn, ends}
use Rattle.feed.specs.Answers.{fed_of}
use Rattle.feed.proofs.Filling.{fill_begins, fill_turn, fill_ends}
use Rattle.feed.proofs.Feed.fill.Goals as goal

-- a byte is there to be taken, and the line is not whole
more : (i : ℕ) (s : List ℕ) → i < length s → (ltb i (length s) && not false) ≡ true
more i s h = and_true (lt-ltb i (length s) h) refl

-- the line is whole, or no byte is there
no_more : (i : ℕ) (s : List ℕ) {shut : Bool} → shut ≡ true → (ltb i (length s) && not shut) ≡ false
no_more i s e = and_right (ltb i (length s)) (ap not e)

none_left : (i : ℕ) (s : List ℕ) → length s ≤ i → (ltb i (length s) && not false) ≡ false
none_left i s h = and_left (not false) (le-ltb i (length s) h)

pub returns-then-self-is_whole : goal.returns-then-self-is_whole
returns-then-self-is_whole c w k =
    let a = c.args in
    let f = fed_of a.self a.bytes w k in
    let v = begins f a.piece.now (search rules) refl (ap (λ (t : Bool). a.self.over || t) c.is_whole.ensures) in
    let e = ends v (no_more 0 a.piece.now c.if-self-is_whole.true) in
    let z : a.self.length + 0 ≡ a.self.length = omega arith in
    rw (c.filled.ensures.used, c.filled.ensures.feed, c.filled.ensures.line, z)
    (fill_ends a.self w k (fill_begins (search rules)) (record { used = e.0; fed = e.1 }))

pub loop-i-init : goal.loop-i-init
loop-i-init c =
    let a = c.args in
    let z : a.self.length + 0 ≡ a.self.length = omega arith in
    rw z (
      fill_begins (search rules),
      λ w k.
          subst (λ (t : Bool). Taking (fed_of a.self a.bytes w k) a.piece.now a.bytes a.self.length 0 t) c.if-self-is_whole.false
          (begins (fed_of a.self a.bytes w k) a.piece.now (search rules) refl (ap (λ (t : Bool). a.self.over || t) c.is_whole.ensures)),
    )

pub bounds-line-n : goal.bounds-line-n
bounds-line-n c = room (c.loop-i.invariant.1 [] []) (more c.loop-i.i c.args.piece.now c.loop-i-test.true)

pub overflow_add-n-in-loop-i : goal.overflow_add-n-in-loop-i
overflow_add-n-in-loop-i c = omega (arith, room (c.loop-i.invariant.1 [] []) (more c.loop-i.i c.args.piece.now c.loop-i-test.true))

pub filled-requires-then-n-x : goal.filled-requires-then-n-x
filled-requires-then-n-x c = omega (arith, room (c.loop-i.invariant.1 [] []) (more c.loop-i.i c.args.piece.now c.loop-i-test.true))

pub returns-then-n-x : goal.returns-then-n-x
returns-then-n-x c w k =
    let a = c.args in
    let s = a.piece.now in
    let i = c.loop-i.i in
    let v = c.loop-i.invariant in
    let go = more i s c.loop-i-test.true in
    let n : a.self.length + (i + 1) ≡ (a.self.length + i) + 1 = omega arith in
    let e = ends (turn (v.1 w k) go refl) (no_more (i + 1) s c.if-n-x.true) in
    let r = c.filled-then-n-x.ensures in
    rw (r.used, r.feed, r.line, n)
    (fill_ends a.self w k (fill_turn v.0 c.loop-i-test.true (room (v.1 w k) go) refl) (record { used = e.0; fed = e.1 }))

pub loop-i-preserved : goal.loop-i-preserved
loop-i-preserved c =
    let a = c.args in
    let s = a.piece.now in
    let i = c.loop-i.i in
    let v = c.loop-i.invariant in
    let go = more i s c.loop-i-test.true in
    let n : a.self.length + (i + 1) ≡ (a.self.length + i) + 1 = omega arith in
    rw n (
      fill_turn v.0 c.loop-i-test.true (room (v.1 [] []) go) refl,
      λ w k.
          subst (λ (t : Bool). Taking (fed_of a.self a.bytes w k) s (set c.loop-i.line (a.self.length + i) (get_or s i 0)) ((a.self.length + i) + 1) (i + 1) t) c.if-n-x.false
          (turn (v.1 w k) go refl),
    )

pub returns : goal.returns
returns c w k =
    let a = c.args in
    let s = a.piece.now in
    let i = c.loop-i.i in
    let v = c.loop-i.invariant in
    let e = ends (v.1 w k) (none_left i s c.loop-i-test.false) in
    let all : length s ≡ i = omega arith in
    let r = c.filled-2.ensures in
    rw (r.used, r.feed, r.line, all) (fill_ends a.self w k v.0 (record { used = e.0; fed = e.1 }))
