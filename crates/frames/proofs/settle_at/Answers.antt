use mathlib.Core.Path.{◌≡◌, ◌∙◌, sym, ap}
use mathlib.Core.Bool.{Bool}
use Prim.Native.Nat.{◌+◌}
use native.Mathlib.Omega.{arith}
use borrow.Author.Tests.{eq-eqb, ne_eqb}
use borrow.Author.Rules.{rules}
use lib.ListN.{length, set, get_or}
use lib.Seq.{set-get_or}
use Rattle.lists.proofs.Cases.{chosen, other}
use Rattle.server.specs.declared.Server.{Server}
use Rattle.server.specs.Server.{absent}
use Rattle.places.specs.Words.{servers_of}
use Rattle.places.specs.Roles.{is_backup}
use Rattle.places.proofs.Words.{silence-is, beat-is}
use Rattle.places.proofs.Canonical.{keeps-all, timer-keeps}
use Rattle.frames.proofs.settle_at.Goals as goal

pub overflow_mul-words : goal.overflow_mul-words
overflow_mul-words c = omega (arith, c.requires.0)

pub overflow_add-words : goal.overflow_add-words
overflow_add-words c = omega (arith, c.requires.0)

pub offset_bounds-words-i : goal.offset_bounds-words-i
offset_bounds-words-i c = omega (arith, c.requires.0)

pub bounds-words-i : goal.bounds-words-i
bounds-words-i c = let long : length c.args.words.now ≡ 80 = search rules in omega (arith, c.requires.0)

pub overflow_add-words-then-is_backup : goal.overflow_add-words-then-is_backup
overflow_add-words-then-is_backup c = omega (arith, c.requires.1)

pub overflow_mul-words-then-is_backup : goal.overflow_mul-words-then-is_backup
overflow_mul-words-then-is_backup c = omega (arith, c.requires.0)

pub overflow_add-words-then-is_backup-2 : goal.overflow_add-words-then-is_backup-2
overflow_add-words-then-is_backup-2 c = omega (arith, c.requires.0)

pub offset_bounds-words-i-then-is_backup : goal.offset_bounds-words-i-then-is_backup
offset_bounds-words-i-then-is_backup c = omega (arith, c.requires.0)

pub bounds-words-i-then-is_backup : goal.bounds-words-i-then-is_backup
bounds-words-i-then-is_backup c = let long : length c.args.words.now ≡ 80 = search rules in omega (arith, c.requires.0)

pub returns-then-i-b : goal.returns-then-i-b
returns-then-i-b c =
    let a = c.args in
    let long : length a.words.now ≡ 80 = search rules in
    let s = get_or (servers_of a.words.now) a.i absent in (
      timer-keeps a.i 2 a.last (omega arith) (omega arith),
      beat-is a.words.now a.i a.last long c.requires.0 ∙ ap (set (servers_of a.words.now) a.i) (sym (chosen _ (eq-eqb a.i a.b c.if-i-b.true))),
    )

pub returns-then-is_backup : goal.returns-then-is_backup
returns-then-is_backup c =
    let a = c.args in
    let long : length a.words.now ≡ 80 = search rules in
    let s = get_or (servers_of a.words.now) a.i absent in
    let is : is_backup s.role ≡ Bool.true = ap (λ (x : Server). is_backup x.role) (sym c.server-s.ensures) ∙ sym c.is_backup.ensures ∙ c.if-is_backup.true in (
      timer-keeps a.i 1 (a.last + 1) (omega arith) (omega arith),
      silence-is a.words.now a.i (a.last + 1) long c.requires.0 ∙ ap (set (servers_of a.words.now) a.i) (sym (other _ (ne_eqb a.i a.b c.if-i-b.false) ∙ chosen _ is)),
    )

pub returns-else-is_backup : goal.returns-else-is_backup
returns-else-is_backup c =
    let a = c.args in
    let long : length a.words.now ≡ 80 = search rules in
    let s = get_or (servers_of a.words.now) a.i absent in
    let is : is_backup s.role ≡ Bool.false = ap (λ (x : Server). is_backup x.role) (sym c.server-s.ensures) ∙ sym c.is_backup.ensures ∙ c.if-is_backup.false in
    (keeps-all, sym (ap (set (servers_of a.words.now) a.i) (other _ (ne_eqb a.i a.b c.if-i-b.false) ∙ other _ is) ∙ set-get_or (servers_of a.words.now) a.i absent))
