-- What a call answers. Assumes nothing.
use Rattle.std.specs.Prelude.{Err}
use mathlib.Core.Bool.{Bool, true}
use mathlib.Core.Path.{◌≡◌, refl, sym, ap, subst, ◌∙◌}
use mathlib.Core.List.{List}
use Prim.Native.Nat.{ℕ, ◌≤◌}
use native.Mathlib.Omega.{arith}
use lib.ListN.{length}
use Rattle.lists.specs.Splice.{splice}
use Rattle.lists.proofs.Cases.{tested, on, other}
use Rattle.lists.proofs.Splicing.{splice-none}
use Rattle.refusal.proofs.Answers.{not-both}
use Rattle.text.specs.Write.{of_written}
use Rattle.feeding.specs.Fed.{Fed}
use Rattle.printer.specs.declared.Ran.{Ran}
use Rattle.printer.specs.declared.Printed.{Printed}
use Rattle.feed.specs.declared.Feed.{Feed}
use Rattle.feed.specs.Answers.{fed_of, Leaves}
use Rattle.printer.specs.Print.{Print, rests, print, short}
use Rattle.printer.specs.Answers.{Prints, PrintsIn}
use Rattle.printer.specs.Steps.{Runs, RunsIn}
use Rattle.printer.proofs.Printing.{stays_within}
use Rattle.printer.proofs.Laws.{laws}
use Rattle.printer.proofs.Leaving.{leaves_none}
use Rattle.refusal.specs.declared.Refusal.{Refusal}

module _ {f : Fed} {s : List ℕ} {last : Bool} {d : List ℕ} {r : Printed} {f' : Fed} {d' : List ℕ} where
  answered : {q : Ran} → Runs f s last d q f' d' → r.written ≡ q.written → r.used ≡ q.used → r.over ≡ f'.over → Prints f s last d r f' d'
  answered v w u o =
      record {
        answer = ap of_written w ∙ v.answer;
        used = u ∙ v.used;
        over = o ∙ ap (λ (x : Fed). x.over) v.fed;
        fed = v.fed;
        out = v.out;
        laws = laws;
      }

  -- no more bytes are taken than there are
  pub used-within : Prints f s last d r f' d' → r.used ≤ length s
  used-within p = let w = (stays_within f s last (length d)).1 in let u = p.used in omega arith

-- and what is left of the feed and of all that is lent to it
module _ {x : Feed} {l w : List ℕ} {k : List Bool} {s : List ℕ} {last : Bool} {d : List ℕ} {q : Ran} {l' w' : List ℕ} {k' : List Bool} {d' : List ℕ} (v : RunsIn x l w k s last d q l' w' k' d') where
  abbrev f : Fed
  f = fed_of x l w k

  abbrev all : Print
  all = print f s last (length d)

  left : Leaves x w k all.used all.fed q.feed w' k'
  left = subst (λ (n : ℕ). Leaves x w k n all.fed q.feed w' k') v.runs.used (subst (λ (g : Fed). Leaves x w k q.used g q.feed w' k') v.runs.fed v.leaves)

  -- 9
  none_done : (n : Refusal) → q.written ≡ Err n → (q.feed ≡ x) × (l' ≡ l) × (w' ≡ w) × (k' ≡ k) × (d' ≡ d)
  none_done n e =
      let b : short f s last (length d) ≡ true = on (tested (short f s last (length d))) (λ t. t) (λ t. not-both (sym (ap of_written e) ∙ v.runs.answer ∙ other _ t)) in
      let is : all ≡ rests f = laws.short f (record { piece = s; last = last; room = length d }) b in
      let then : Leaves x w k 0 f q.feed w' k' = subst (λ (p : Print). Leaves x w k p.used p.fed q.feed w' k') is left in
      let now : Leaves x w k 0 f x w k = leaves_none l in
      (then.feed ∙ sym now.feed, v.line ∙ ap (λ (p : Print). p.line l) is, v.same n e, then.links ∙ sym now.links, v.runs.out ∙ ap (λ (p : Print). splice d 0 p.lines) is ∙ splice-none d 0)

  pub answered_in : {o : Bool} → o ≡ q.feed.over → PrintsIn x l w k s last d (record { written = q.written; used = q.used; over = o; feed = q.feed }) l' w' k' d'
  answered_in b =
      record {
        prints = answered v.runs refl refl b;
        leaves = left;
        line = v.line;
        same = none_done;
      }
