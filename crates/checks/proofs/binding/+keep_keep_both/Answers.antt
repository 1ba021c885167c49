-- `checks::binding::keep` and `checks::binding::keep_both` meet their contracts.
use borrow.Author.Rules.{rules}
use Rattle.checks.proofs.WalkLaws.{both_broke, both_done, keeps_onward}
use Rattle.checks.proofs.PlainLaws.{plain_all, plain_broke, opened_inside, opened_more, falls_bound, falls_let, falls_clause, opened_let_broke, opened_let_done, opened_clause_broke, opened_clause_done}
use Rattle.checks.proofs.binding.+keep_keep_both.Goals as goal

pub keep-returns-in_err-a : goal.keep-returns-in_err-a
keep-returns-in_err-a t c = search (plain_broke, c.in_err-a.ensures)

pub keep-returns-in-Ends : goal.keep-returns-in-Ends
keep-returns-in-Ends t c = search (plain_all, c.in_ok-a.ensures)

pub keep-offset_bounds-subject-turn : goal.keep-offset_bounds-subject-turn
keep-offset_bounds-subject-turn t c = search (rules, opened_inside, c.in_ok-a.ensures)

pub keep-bounds-subject-turn : goal.keep-bounds-subject-turn
keep-bounds-subject-turn t c = search (opened_inside, c.in_ok-a.ensures)

pub keep-overflow_add-from : goal.keep-overflow_add-from
keep-overflow_add-from t c =
    let h = opened_inside _ _ _ _ _ _ _ _ _ c.in_ok-a.ensures _ c.in-Turns.is in
    search rules

pub keep-keep-requires : goal.keep-keep-requires
keep-keep-requires t c = search (falls_bound, c.in_ok-a.ensures)

pub keep-returns-in_err-a-2 : goal.keep-returns-in_err-a-2
keep-returns-in_err-a-2 t c = search (opened_let_broke, c.in_ok-a.ensures, c.in_err-a-2.ensures) fits 4000

pub keep-overflow_sub-after : goal.keep-overflow_sub-after
keep-overflow_sub-after t c = search (opened_more, c.in_ok-a.ensures)

pub keep-keep_both-requires : goal.keep-keep_both-requires
keep-keep_both-requires t c = search (falls_let, c.in_ok-a.ensures, c.in_ok-a-2.ensures)

pub keep-returns-then-tag-eq-LET : goal.keep-returns-then-tag-eq-LET
keep-returns-then-tag-eq-LET t c = search (opened_let_done, c.in_ok-a.ensures, c.in_ok-a-2.ensures) fits 4000

pub keep-returns-in_err-a-3 : goal.keep-returns-in_err-a-3
keep-returns-in_err-a-3 t c = search (opened_clause_broke, c.in_ok-a.ensures, c.in_err-a-3.ensures) fits 4000

pub keep-keep_both-requires-2 : goal.keep-keep_both-requires-2
keep-keep_both-requires-2 t c = search (falls_clause, c.in_ok-a.ensures, c.in_ok-a-3.ensures)

pub keep-returns : goal.keep-returns
keep-returns t c = search (opened_clause_done, c.in_ok-a.ensures, c.in_ok-a-3.ensures) fits 4000

pub keep_both-returns-in_err-a : goal.keep_both-returns-in_err-a
keep_both-returns-in_err-a t c = search (both_broke, c.in_err-a.ensures) fits 4000

pub keep_both-keep-requires-2 : goal.keep_both-keep-requires-2
keep_both-keep-requires-2 t c =
    let h = keeps_onward c.in_ok-a.ensures in
    search rules

pub keep_both-returns : goal.keep_both-returns
keep_both-returns t c = search (both_done, c.in_ok-a.ensures) fits 4000
