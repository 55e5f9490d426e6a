-- The worked days hold: one test, computed over the whole table. Assumes nothing.
use mathlib.Core.List.{[]}
use mathlib.Core.Bool.{Bool, true, false, not, ◌&&◌}
use mathlib.Core.Path.{◌≡◌, refl, sym}
use borrow.Author.Tests.{eqb-true}
use lib.Dec.{eqb}
use lib.ListN.{get_or}
use Rattle.lists.specs.Choice.{choose}
use Rattle.lists.specs.Lists.{every, same, split_on, up_to}
use Rattle.lists.proofs.Cases.{fst_true, snd_true}
use Rattle.lists.proofs.Clear.{every-at}
use Rattle.lists.proofs.SameLoop.{same-equal}
use Rattle.refusal.specs.Answer.{in_turn}
use Rattle.text.specs.Digits.{digits}
use Rattle.text.specs.Number.{value, well_written, read_number}
use Rattle.text.specs.Line.{read_line}
use Rattle.timecode.specs.Label.{label}
use Rattle.timecode.specs.Read.{two_below, is_label, frame_of, read_timecode}
use Rattle.heartbeat.specs.Rank.{higher}
use Rattle.heartbeat.specs.Heartbeat.{is_set, read_fields, read_body, read_heartbeat, heartbeat_line}
use Rattle.periods.specs.Period.{take_period}
use Rattle.server.specs.Server.{one_more, sent_by, sent_any, after}
use Rattle.server.specs.Hearing.{for_this, backup_hears, replies, prospect_hears, primary_hears, heard_all}
use Rattle.server.specs.Timers.{after_silent, after_beating, after_rising}
use Rattle.roles.specs.Verbs.{from, enters, entering, verb_happens}
use Rattle.server.specs.Verbs.{verb_answer}
use Rattle.group.specs.Table.{place_in, stands_before, enter, anew, is_new, follows, rises, is_table, add_refusal, added, fresh_refusal}
use Rattle.lines.specs.Lines.{line, lines_of}
use Rattle.group.specs.Hearing.{hears_from, comes, next_among, next_sender, senders_after, sent_by_all, inbox}
use Rattle.group.specs.Frame.{heard_lines, timed_lines, hearing, turned, turn_lines, turns_lines, advanced, frame_lines}
use Rattle.group.specs.Verbs.{names_nobody, known, state_refusal, verb_refusal, did}
use Rattle.group.specs.Advance.{advanced_by, lines_by}
use Rattle.day.specs.Read.{lines_in, when_good, having, verb_named, body_read, line_read}
use Rattle.day.specs.Day.{add_effect, call_effect, entry_effect, end_effect, opening, effect_of}
use Rattle.day.specs.Sheet.{input_refusal, sheet_from, sheet}
use Rattle.days.specs.Rows.{Row, day, timecode, heartbeat, heartbeat_of, Says, rows, WorkedDays}

same_bool : Bool → Bool → Bool
same_bool true b = b
same_bool false b = not b

same_bool_lem : (a b : Bool) → same_bool a b ≡ true → a ≡ b
unfolding same_bool
same_bool_lem true true e = refl
same_bool_lem true false e = sym e
same_bool_lem false true e = e
same_bool_lem false false e = refl

-- what a row says, as a test
holds : Row → Bool
holds (day d s) = same (sheet d) s
holds (timecode l n vs) = eqb (read_timecode l).number n && same (read_timecode l).values vs
holds (heartbeat l set w) =
    eqb (read_heartbeat l).number 0
    && (same_bool (is_set (heartbeat_of (read_heartbeat l).values).reveal) set && same (heartbeat_line (heartbeat_of (read_heartbeat l).values)) w)

so : (r : Row) → holds r ≡ true → Says r
unfolding holds
so (day d s) e = same-equal (sheet d) s e
so (timecode l n vs) e = (eqb-true _ _ (fst_true _ _ e), same-equal _ _ (snd_true (eqb (read_timecode l).number n) _ e))
so (heartbeat l set w) e =
    let f = snd_true (eqb (read_heartbeat l).number 0) _ e in (
      eqb-true _ _ (fst_true _ _ e),
      same_bool_lem _ _ (fst_true _ _ f),
      same-equal _ _ (snd_true (same_bool (is_set (heartbeat_of (read_heartbeat l).values).reveal) set) _ f),
    )

whole : every holds rows ≡ true
unfolding holds same_bool choose same split_on up_to in_turn digits value well_written read_number read_line label two_below is_label frame_of read_timecode higher read_fields read_body read_heartbeat heartbeat_line take_period one_more sent_by sent_any after for_this backup_hears replies prospect_hears primary_hears after_silent after_beating after_rising from enters entering verb_happens verb_answer place_in stands_before enter anew is_new follows rises is_table add_refusal added fresh_refusal line lines_of hears_from comes next_among next_sender senders_after sent_by_all inbox heard_all heard_lines timed_lines hearing turned turn_lines turns_lines advanced frame_lines names_nobody known state_refusal verb_refusal did advanced_by lines_by lines_in when_good having verb_named body_read line_read add_effect call_effect entry_effect end_effect opening effect_of input_refusal sheet_from sheet
whole = refl

pub worked_days : WorkedDays
worked_days i h = so (get_or rows i (day [] [])) (every-at holds rows i (day [] []) whole h)
