use Rattle.std.proofs.lemmas.Result.{err_from_is_err_and}
use Rattle.text.proofs.Writing.{first_piece, on, stopped}
use Rattle.heartbeat.specs.Heartbeat.{heartbeat_line}
use Rattle.heartbeat.proofs.Heartbeat.put_line.Goals as goal

pub returns-in_err-bs : goal.returns-in_err-bs
unfolding heartbeat_line
returns-in_err-bs c = let p = err_from_is_err_and c.from_residual.result c.from_residual.ensures.1 in rw (p.1, p.2) (stopped _ (stopped _ (stopped _ (stopped _ (stopped _ (stopped _ (stopped _ (first_piece c.in_err-bs.ensures.writes))))))))

pub returns-in_err-tab : goal.returns-in_err-tab
unfolding heartbeat_line
returns-in_err-tab c = let p = err_from_is_err_and c.from_residual-in_err-tab.result c.from_residual-in_err-tab.ensures.1 in rw (p.1, p.2) (stopped _ (stopped _ (stopped _ (stopped _ (stopped _ (stopped _ (on (first_piece c.in_ok-bs.ensures.writes) c.in_err-tab.ensures)))))))

pub returns-in_err-priority : goal.returns-in_err-priority
unfolding heartbeat_line
returns-in_err-priority c = let p = err_from_is_err_and c.from_residual-in_err-priority.result c.from_residual-in_err-priority.ensures.1 in rw (p.1, p.2) (stopped _ (stopped _ (stopped _ (stopped _ (stopped _ (on (on (first_piece c.in_ok-bs.ensures.writes) c.in_ok-tab.ensures) c.in_err-priority.ensures.writes))))))

pub returns-in_err-tab2 : goal.returns-in_err-tab2
unfolding heartbeat_line
returns-in_err-tab2 c = let p = err_from_is_err_and c.from_residual-in_err-tab2.result c.from_residual-in_err-tab2.ensures.1 in rw (p.1, p.2) (stopped _ (stopped _ (stopped _ (stopped _ (on (on (on (first_piece c.in_ok-bs.ensures.writes) c.in_ok-tab.ensures) c.in_ok-priority.ensures.writes) c.in_err-tab2.ensures)))))

pub returns-in_err-tiebreaker : goal.returns-in_err-tiebreaker
unfolding heartbeat_line
returns-in_err-tiebreaker c = let p = err_from_is_err_and c.from_residual-in_err-tiebreaker.result c.from_residual-in_err-tiebreaker.ensures.1 in rw (p.1, p.2) (stopped _ (stopped _ (stopped _ (on (on (on (on (first_piece c.in_ok-bs.ensures.writes) c.in_ok-tab.ensures) c.in_ok-priority.ensures.writes) c.in_ok-tab2.ensures) c.in_err-tiebreaker.ensures.writes))))

pub returns-in_err-tab3 : goal.returns-in_err-tab3
unfolding heartbeat_line
returns-in_err-tab3 c = let p = err_from_is_err_and c.from_residual-in_err-tab3.result c.from_residual-in_err-tab3.ensures.1 in rw (p.1, p.2) (stopped _ (stopped _ (on (on (on (on (on (first_piece c.in_ok-bs.ensures.writes) c.in_ok-tab.ensures) c.in_ok-priority.ensures.writes) c.in_ok-tab2.ensures) c.in_ok-tiebreaker.ensures.writes) c.in_err-tab3.ensures)))

pub returns-in_err-reveal : goal.returns-in_err-reveal
unfolding heartbeat_line
returns-in_err-reveal c = let p = err_from_is_err_and c.from_residual-in_err-reveal.result c.from_residual-in_err-reveal.ensures.1 in rw (p.1, p.2) (stopped _ (on (on (on (on (on (on (first_piece c.in_ok-bs.ensures.writes) c.in_ok-tab.ensures) c.in_ok-priority.ensures.writes) c.in_ok-tab2.ensures) c.in_ok-tiebreaker.ensures.writes) c.in_ok-tab3.ensures) (rw c.reveal_written.ensures at c.in_err-reveal.ensures.writes)))

pub returns : goal.returns
unfolding heartbeat_line
returns c = on (on (on (on (on (on (on (first_piece c.in_ok-bs.ensures.writes) c.in_ok-tab.ensures) c.in_ok-priority.ensures.writes) c.in_ok-tab2.ensures) c.in_ok-tiebreaker.ensures.writes) c.in_ok-tab3.ensures) (rw c.reveal_written.ensures at c.in_ok-reveal.ensures.writes)) c.write_bytes-4.ensures
