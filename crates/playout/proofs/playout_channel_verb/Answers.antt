use Rattle.group.specs.Verbs.{verb_outcome}
use Rattle.plain.specs.Numbers.{is_verb, verb_of}
use Rattle.plain.specs.Plain.{is_channel}
use Rattle.lists.proofs.Cases.{fst_true}
use Rattle.playout.proofs.Channels.{gives_of, answers_well, answers-ill}
use Rattle.playout.proofs.playout_channel_verb.Goals as goal

pub returns-then-is_channel-is_verb : goal.returns-then-is_channel-is_verb
returns-then-is_channel-is_verb c =
    let a = c.args in
    let e = rw (c.is_verb.ensures, c.is_channel.ensures) at c.if-is_channel-is_verb.true in
    rw c.answered.ensures (answers_well _ _ _ _ _ _ _ _ e (fst_true (is_channel a.channel) (is_verb a.verb) e) (gives_of a.channel (λ s. verb_outcome s (verb_of a.verb) a.a a.b) c.channel_from.ensures (rw c.verb_of.ensures at c.verb.ensures.gives)))

pub returns-else-is_channel-is_verb : goal.returns-else-is_channel-is_verb
returns-else-is_channel-is_verb c = rw c.unanswered.ensures (answers-ill _ _ _ _ (rw (c.is_verb.ensures, c.is_channel.ensures) at c.if-is_channel-is_verb.false))
