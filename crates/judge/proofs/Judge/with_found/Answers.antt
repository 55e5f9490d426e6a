use mathlib.Core.List.{[]}
use native.Mathlib.Omega.{arith}
use Rattle.judge.proofs.Holding.{found-by}
use Rattle.judge.proofs.Judge.with_found.Goals as goal

pub overflow_add-lines : goal.overflow_add-lines
overflow_add-lines c = let p = c.requires in let a = p.0 in let b = p.1 in let d = p.2 in omega arith

pub overflow_add-lines-2 : goal.overflow_add-lines-2
overflow_add-lines-2 c = let p = c.requires in let a = p.0 in let b = p.1 in let d = p.2 in omega arith

pub overflow_add-result : goal.overflow_add-result
overflow_add-result c = let p = c.requires in let a = p.0 in let b = p.1 in let d = p.2 in omega arith

pub returns : goal.returns
returns c = let args = c.args in
    found-by args.self args.at args.n args.m args.last args.c (c.over-over.ensures [] [] []) c.decide-judgement.ensures
