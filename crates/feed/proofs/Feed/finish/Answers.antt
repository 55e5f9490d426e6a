use mathlib.Core.Bool.{Bool, ◌||◌}
use mathlib.Core.Path.{refl, sym, ap, ◌∙◌}
use native.Mathlib.Omega.{arith}
use lib.ListN.{take}
use Rattle.feeding.proofs.Finishing.{line-last, none_last, last-closed, last_open}
use Rattle.feed.specs.Answers.{fed_of}
use Rattle.feed.proofs.Leaving.{passes_same}
use Rattle.feed.proofs.Making.{does_as, does-none}
use Rattle.feed.proofs.Pairing.{makes_in}
use Rattle.feed.proofs.Feed.finish.Goals as goal

pub returns-then-self-is_whole : goal.returns-then-self-is_whole
returns-then-self-is_whole c w k =
    let a = c.args in
    let shut = sym (ap (λ (t : Bool). a.self.over || t) c.is_whole.ensures) ∙ c.if-self-is_whole.true in
    makes_in (does_as (last-closed (fed_of a.self a.line.now w k) shut) (does-none refl passes_same))

pub returns-then-present-gt0 : goal.returns-then-present-gt0
returns-then-present-gt0 c w k =
    let a = c.args in
    let l = a.line.now in
    let shut = sym (ap (λ (t : Bool). a.self.over || t) c.is_whole.ensures) ∙ c.if-self-is_whole.false in
    makes_in (does_as (last_open (fed_of a.self l w k) shut (line-last _ _ (take a.self.length l) (omega (arith, c.present.ensures, c.if-present-gt0.true)))) (c.stop.ensures w k l))

pub returns : goal.returns
returns c w k =
    let a = c.args in
    let l = a.line.now in
    let shut = sym (ap (λ (t : Bool). a.self.over || t) c.is_whole.ensures) ∙ c.if-self-is_whole.false in
    makes_in (does_as (last_open (fed_of a.self l w k) shut (none_last _ _ (take a.self.length l) (omega (arith, c.present.ensures, c.if-present-gt0.false)))) (c.finish_line.ensures w k l))
