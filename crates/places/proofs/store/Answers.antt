use mathlib.Core.Path.{◌≡◌, ap₂, ◌∙◌}
use Prim.Native.Nat.{ℕ, ◌+◌, ◌*◌}
use native.Mathlib.Omega.{arith}
use borrow.Author.Rules.{rules}
use lib.ListN.{length}
use Rattle.places.specs.Words.{head_number}
use Rattle.places.proofs.Words.{put5, spliced, role-small}
use Rattle.places.proofs.store.Goals as goal

pub overflow_mul-head : goal.overflow_mul-head
overflow_mul-head c = omega (arith, c.role_number.ensures, role-small c.args.s.role)

pub overflow_add-head : goal.overflow_add-head
overflow_add-head c =
    let r = c.rank_number.ensures in
    omega (arith, c.role_number.ensures, role-small c.args.s.role, r.0, r.1.0, r.1.1)

pub returns : goal.returns
returns c =
    let a = c.args in
    let s = a.s in
    let r = c.rank_number.ensures in
    let q = c.sending_number-sending.ensures in
    let head : c.role_number.result * 16777216 + c.rank_number.result ≡ head_number s = ap₂ (λ (x y : ℕ). x * 16777216 + y) c.role_number.ensures r.0 in
    record {
      numbers =
          ap₂ (λ (x y : ℕ). put5 a.words.now (5 * a.i) x s.silence s.beat s.prospect y) head q.0
          ∙ spliced a.words.now (5 * a.i) _ _ _ _ _ (let long : length c.args.words.now ≡ 80 = search rules in omega arith);
      fits = record { identity = r.1.0; priority = r.1.1; beats = q.1.0; pass = q.1.1 };
    }
