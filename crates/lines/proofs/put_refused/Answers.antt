use Rattle.std.proofs.lemmas.Result.{err_from_is_err_and}
use Rattle.text.proofs.Writing.{first_piece, on, stopped}
use Rattle.lines.proofs.Pieces.{refused-pieces}
use Rattle.lines.proofs.put_refused.Goals as goal

pub returns-in_err-time : goal.returns-in_err-time
returns-in_err-time c = let p = err_from_is_err_and c.from_residual.result c.from_residual.ensures.1 in rw (p.1, p.2) (rw (← refused-pieces c.args.frame c.args.identity c.args.n) (stopped _ (stopped _ (stopped _ (stopped _ (stopped _ (first_piece (rw c.label_of-label.ensures at c.in_err-time.ensures))))))))

pub returns-in_err-tab : goal.returns-in_err-tab
returns-in_err-tab c = let p = err_from_is_err_and c.from_residual-in_err-tab.result c.from_residual-in_err-tab.ensures.1 in rw (p.1, p.2) (rw (← refused-pieces c.args.frame c.args.identity c.args.n) (stopped _ (stopped _ (stopped _ (stopped _ (on (first_piece (rw c.label_of-label.ensures at c.in_ok-time.ensures)) c.in_err-tab.ensures))))))

pub returns-in_err-server : goal.returns-in_err-server
returns-in_err-server c = let p = err_from_is_err_and c.from_residual-in_err-server.result c.from_residual-in_err-server.ensures.1 in rw (p.1, p.2) (rw (← refused-pieces c.args.frame c.args.identity c.args.n) (stopped _ (stopped _ (stopped _ (on (on (first_piece (rw c.label_of-label.ensures at c.in_ok-time.ensures)) c.in_ok-tab.ensures) c.in_err-server.ensures.writes)))))

pub returns-in_err-word : goal.returns-in_err-word
returns-in_err-word c = let p = err_from_is_err_and c.from_residual-in_err-word.result c.from_residual-in_err-word.ensures.1 in rw (p.1, p.2) (rw (← refused-pieces c.args.frame c.args.identity c.args.n) (stopped _ (stopped _ (on (on (on (first_piece (rw c.label_of-label.ensures at c.in_ok-time.ensures)) c.in_ok-tab.ensures) c.in_ok-server.ensures.writes) c.in_err-word.ensures))))

pub returns-in_err-number : goal.returns-in_err-number
returns-in_err-number c = let p = err_from_is_err_and c.from_residual-in_err-number.result c.from_residual-in_err-number.ensures.1 in rw (p.1, p.2) (rw (← refused-pieces c.args.frame c.args.identity c.args.n) (stopped _ (on (on (on (on (first_piece (rw c.label_of-label.ensures at c.in_ok-time.ensures)) c.in_ok-tab.ensures) c.in_ok-server.ensures.writes) c.in_ok-word.ensures) c.in_err-number.ensures.writes)))

pub returns : goal.returns
returns c = rw (← refused-pieces c.args.frame c.args.identity c.args.n) (on (on (on (on (on (first_piece (rw c.label_of-label.ensures at c.in_ok-time.ensures)) c.in_ok-tab.ensures) c.in_ok-server.ensures.writes) c.in_ok-word.ensures) c.in_ok-number.ensures.writes) c.write_bytes-4.ensures)
