use Rattle.std.specs.Prelude.{Some, None}
use Rattle.std.proofs.lemmas.Result.{err_from_is_err_and}
use mathlib.Core.Path.{◌≡◌, sym, ap, ap₂, ◌∙◌}
use mathlib.Core.List.{List}
use Prim.Native.Nat.{ℕ}
use native.Mathlib.Omega.{arith}
use Rattle.refusal.specs.declared.Refusal.TheVariants.{Form}
use Rattle.text.specs.Line.{after_field}
use Rattle.day.specs.Read.{Named, when_good, verb_named}
use Rattle.dayline.specs.Steps.{of_named, counted, entry_of, entry_read, entry_named}
use Rattle.dayline.proofs.from_verb.Goals as goal

pub field_to-requires : goal.field_to-requires
field_to-requires c = c.find-tab.ensures

pub returns-in_err-verb : goal.returns-in_err-verb
returns-in_err-verb c =
    let a = c.args in
    let e : c.verb_named.result ≡ None = grind arith in
    let p = err_from_is_err_and c.from_residual.result c.from_residual.ensures.1 in
    let f : c.in_err-verb.field-0.0 ≡ Form = grind arith in
    rw (p.1, p.2, f)
    (ap (λ (w : Named). entry_named w a.time.now (after_field a.s.now) a.count)
    (sym (ap of_named e) ∙ c.verb_named.ensures ∙ ap verb_named c.field_to.ensures))

pub returns : goal.returns
returns c =
    let a = c.args in
    let v = c.in_ok-verb.verb in
    let e : c.verb_named.result ≡ Some v = grind arith in
    c.counted.ensures
    ∙ ap₂ (counted a.count) c.fields_of.ensures
    (c.read_entry.ensures ∙ ap (λ (s : List ℕ). when_good (entry_read v a.time.now s) (entry_of v)) c.field_from.ensures)
    ∙ ap (λ (w : Named). entry_named w a.time.now (after_field a.s.now) a.count)
    (sym (ap of_named e) ∙ c.verb_named.ensures ∙ ap verb_named c.field_to.ensures)
