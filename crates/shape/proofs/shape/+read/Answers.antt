-- `shape::shape::read` meets its contract.
use borrow.Author.Rules.{rules}
use Rattle.shape.proofs.ReadingLaws.{run_ends, run_fails, turned_inside, turned_more, falls_first, falls_second, falls_third, falls_fourth, first_fails, second_fails, third_fails, turned_done}
use Rattle.shape.proofs.shape.+read.Goals as goal

pub returns-in_err-a : goal.returns-in_err-a
returns-in_err-a t c = run_fails _ _ _ _ _ _ c.in_err-a.ensures _ c.from_residual.ensures.1

pub returns-in-Ends : goal.returns-in-Ends
returns-in-Ends t c = run_ends _ _ _ _ _ _ c.in_ok-a.ensures _ c.in-Ends.is

pub offset_bounds-row-turn : goal.offset_bounds-row-turn
offset_bounds-row-turn t c =
    let h = turned_inside _ _ _ _ _ _ c.in_ok-a.ensures _ c.in-Turns.is in
    search rules

pub bounds-row-turn : goal.bounds-row-turn
bounds-row-turn t c = turned_inside _ _ _ _ _ _ c.in_ok-a.ensures _ c.in-Turns.is

pub overflow_add-turn : goal.overflow_add-turn
overflow_add-turn t c =
    let h = turned_inside _ _ _ _ _ _ c.in_ok-a.ensures _ c.in-Turns.is in
    search rules

pub read-requires : goal.read-requires
read-requires t c = (falls_first _ _ _ _ _ _ c.in_ok-a.ensures _ c.in-Turns.is _ c.decreases, tt)

pub returns-in_err-a-2 : goal.returns-in_err-a-2
returns-in_err-a-2 t c = search (first_fails, c.in_ok-a.ensures, c.in_err-a-2.ensures)

pub read-requires-2 : goal.read-requires-2
read-requires-2 t c = search (falls_second, c.in_ok-a.ensures, c.in_ok-a-2.ensures)

pub returns-in_err-b : goal.returns-in_err-b
returns-in_err-b t c = search (second_fails, c.in_ok-a.ensures, c.in_ok-a-2.ensures, c.in_err-b.ensures)

pub read-requires-3 : goal.read-requires-3
read-requires-3 t c = search (falls_third, c.in_ok-a.ensures, c.in_ok-a-2.ensures, c.in_ok-b.ensures)

pub returns-in_err-c : goal.returns-in_err-c
returns-in_err-c t c = search (third_fails, c.in_ok-a.ensures, c.in_ok-a-2.ensures, c.in_ok-b.ensures, c.in_err-c.ensures)

pub overflow_sub-turn : goal.overflow_sub-turn
overflow_sub-turn t c = turned_more _ _ _ _ _ _ c.in_ok-a.ensures _ c.in-Turns.is

pub read-requires-4 : goal.read-requires-4
read-requires-4 t c = search (falls_fourth, c.in_ok-a.ensures, c.in_ok-a-2.ensures, c.in_ok-b.ensures, c.in_ok-c.ensures)

pub returns : goal.returns
returns t c = search (turned_done, c.in_ok-a.ensures, c.in_ok-a-2.ensures, c.in_ok-b.ensures, c.in_ok-c.ensures)
