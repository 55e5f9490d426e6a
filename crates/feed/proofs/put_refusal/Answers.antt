use Rattle.std.proofs.lemmas.Result.{err_from_is_err_and}
use Rattle.text.proofs.Writing.{first_piece, on, stopped}
use Rattle.text.specs.Digits.{digits}
use Rattle.text.specs.Words.{bytes}
use Rattle.feeding.proofs.Refusals.{refusal-pieces}
use Rattle.feed.proofs.put_refusal.Goals as goal

pub returns-in_err-line : goal.returns-in_err-line
returns-in_err-line c = let p = err_from_is_err_and c.from_residual.result c.from_residual.ensures.1 in rw (p.1, p.2) (rw (← refusal-pieces c.args.number c.args.n) (stopped (bytes "\n") (stopped (digits c.args.n) (stopped (bytes "\trefused-") (stopped (digits c.args.number) (first_piece c.in_err-line.ensures))))))

pub returns-in_err-count : goal.returns-in_err-count
returns-in_err-count c = let p = err_from_is_err_and c.from_residual-in_err-count.result c.from_residual-in_err-count.ensures.1 in rw (p.1, p.2) (rw (← refusal-pieces c.args.number c.args.n) (stopped (bytes "\n") (stopped (digits c.args.n) (stopped (bytes "\trefused-") (on (first_piece c.in_ok-line.ensures) c.in_err-count.ensures.writes)))))

pub returns-in_err-word : goal.returns-in_err-word
returns-in_err-word c = let p = err_from_is_err_and c.from_residual-in_err-word.result c.from_residual-in_err-word.ensures.1 in rw (p.1, p.2) (rw (← refusal-pieces c.args.number c.args.n) (stopped (bytes "\n") (stopped (digits c.args.n) (on (on (first_piece c.in_ok-line.ensures) c.in_ok-count.ensures.writes) c.in_err-word.ensures))))

pub returns-in_err-refusal : goal.returns-in_err-refusal
returns-in_err-refusal c = let p = err_from_is_err_and c.from_residual-in_err-refusal.result c.from_residual-in_err-refusal.ensures.1 in rw (p.1, p.2) (rw (← refusal-pieces c.args.number c.args.n) (stopped (bytes "\n") (on (on (on (first_piece c.in_ok-line.ensures) c.in_ok-count.ensures.writes) c.in_ok-word.ensures) c.in_err-refusal.ensures.writes)))

pub returns : goal.returns
returns c = rw (← refusal-pieces c.args.number c.args.n) (on (on (on (on (first_piece c.in_ok-line.ensures) c.in_ok-count.ensures.writes) c.in_ok-word.ensures) c.in_ok-refusal.ensures.writes) c.write_bytes-3.ensures)
