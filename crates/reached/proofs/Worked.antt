-- The lists of calls of specs/Worked.antt, computed. Assumes nothing.
use mathlib.Core.Bool.{Bool, true, false, not, ◌&&◌}
use mathlib.Core.Path.{◌≡◌, refl}
use mathlib.Core.List.{List, [], ◌∷◌}
use Prim.Native.Nat.{ℕ}
use lib.Dec.{eqb}
use Rattle.lists.specs.Choice.{choose}
use Rattle.lists.specs.Lists.{same}
use Rattle.text.specs.Digits.{digits}
use Rattle.timecode.specs.Label.{label}
use Rattle.heartbeat.specs.Rank.{higher}
use Rattle.server.specs.Server.{one_more, sent_by, sent_any, after}
use Rattle.server.specs.Hearing.{for_this, backup_hears, replies, prospect_hears, primary_hears, heard_all}
use Rattle.server.specs.Timers.{after_silent, after_beating, after_rising}
use Rattle.roles.specs.Verbs.{from, enters, entering, verb_happens}
use Rattle.server.specs.Verbs.{verb_answer}
use Rattle.group.specs.declared.State.{State}
use Rattle.group.specs.Outcome.{number_in, channel_in}
use Rattle.group.specs.Table.{place_in, stands_before, enter, anew, is_new, follows, rises, is_table, add_refusal, added, with_servers}
use Rattle.lines.specs.Lines.{line, lines_of}
use Rattle.group.specs.Hearing.{hears_from, comes, next_among, next_sender, senders_after, sent_by_all, inbox}
use Rattle.group.specs.Frame.{heard_lines, timed_lines, hearing, turned, turn_lines, turns_lines, advanced, frame_lines}
use Rattle.group.specs.Verbs.{names_nobody, known, state_refusal, verb_refusal, did}
use Rattle.group.specs.Advance.{advanced_by, lines_by, time_refusal}
use Rattle.group.specs.Calls.{advance_to, call_number, call_channel, channel_after}
use Rattle.group.specs.Links.{cut_by_call, cut_after}
use Rattle.reached.specs.Worked.{three_highest, two_highest, roles_of, lent, late_ready, lower_beats, slowest, passing, two_primaries, opened}

-- what is said of the channel that a list ends with, as a test: the list ends in frame 13, and
-- these are the roles then, in the next frame and in frame 27. The channel is an argument, so that
-- it is computed once
unfoldable pub says : State → List ℕ → List ℕ → List ℕ → Bool
says c ended next settled =
    eqb c.frame 13
    && (same (roles_of c) ended
    && (same (roles_of (advanced c)) next
    && same (roles_of (channel_after c (advance_to 27 lent ∷ []))) settled))

-- all of them, one of them a frame sooner, and the one link that two of them cut and mend
pub computed :
    (says (channel_after (opened three_highest) lower_beats) (5 ∷ 3 ∷ 3 ∷ []) (5 ∷ 3 ∷ 3 ∷ []) (5 ∷ 3 ∷ 3 ∷ [])
    && (says (channel_after (opened three_highest) slowest) (3 ∷ 5 ∷ 3 ∷ []) (3 ∷ 3 ∷ 3 ∷ []) (3 ∷ 3 ∷ 5 ∷ [])
    && (says (channel_after (opened two_highest) late_ready) (3 ∷ 3 ∷ 3 ∷ []) (3 ∷ 3 ∷ 3 ∷ []) (3 ∷ 5 ∷ 3 ∷ [])
    && (says (channel_after (opened three_highest) passing) (3 ∷ 3 ∷ 3 ∷ []) (4 ∷ 3 ∷ 3 ∷ []) (5 ∷ 3 ∷ 3 ∷ [])
    && (says (channel_after (opened three_highest) two_primaries) (3 ∷ 5 ∷ 5 ∷ []) (3 ∷ 3 ∷ 5 ∷ []) (3 ∷ 3 ∷ 5 ∷ [])
    && (same (roles_of (channel_after (channel_after (opened three_highest) slowest) (advance_to 26 lent ∷ []))) (3 ∷ 3 ∷ 4 ∷ [])
    && (not (cut_after 3 2 (opened three_highest) slowest false) && not (cut_after 3 2 (opened three_highest) two_primaries false)))))))) ≡ true
unfolding says choose same digits label higher one_more sent_by sent_any after for_this backup_hears replies prospect_hears primary_hears after_silent after_beating after_rising from enters entering verb_happens verb_answer number_in channel_in place_in stands_before enter anew is_new follows rises is_table add_refusal added line lines_of hears_from comes next_among next_sender senders_after sent_by_all inbox heard_all heard_lines timed_lines hearing turned turn_lines turns_lines advanced frame_lines names_nobody known state_refusal verb_refusal did advanced_by lines_by time_refusal call_channel call_number channel_after with_servers cut_after cut_by_call
computed = refl
