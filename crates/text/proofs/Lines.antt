-- What an answer of `read_line` says. Assumes nothing.
use mathlib.Core.Bool.{true, ◌&&◌}
use mathlib.Core.Path.{◌≡◌, sym}
use mathlib.Core.List.{List, [], ◌∷◌}
use Prim.Native.Nat.{ℕ, suc}
use borrow.Author.Tests.{eqb-true}
use lib.Dec.{leb, eqb}
use lib.ListN.{length}
use Rattle.lists.specs.Lists.{up_to}
use Rattle.lists.proofs.Cases.{snd_true}
use Rattle.refusal.specs.Answer.{accepted, refused}
use Rattle.refusal.proofs.Answers.{took, declined}
use Rattle.text.specs.Line.{line_limit, read_line}

module _ (s : List ℕ) {n : ℕ} (e : accepted (n ∷ []) ≡ read_line s) where
  both : ((leb (up_to 10 s) line_limit && eqb (suc (up_to 10 s)) (length s)) ≡ true) × (up_to 10 s ≡ n)
  unfolding read_line
  both = took _ _ _ (sym e)

  pub line-body : up_to 10 s ≡ n
  line-body = both.1

  pub line-whole : suc (up_to 10 s) ≡ length s
  line-whole = eqb-true _ _ (snd_true (leb (up_to 10 s) line_limit) _ both.0)

pub line_refused : (s : List ℕ) {k : ℕ} → refused k ≡ read_line s → 1 ≡ k
unfolding read_line
line_refused s e = (declined _ _ _ (sym e)).1
