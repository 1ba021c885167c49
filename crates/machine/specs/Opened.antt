-- All that `work` rests on, under one name: where `unfolding opened` is written, the definitions compute on closed input.
use Rattle.std.specs.Prelude.{ℕ}
use Rattle.lists.specs.Lists.{member, up_to, same_list, keep, any, but_last, joined}
use Rattle.lists.specs.Tables.{put}
use Rattle.term.specs.Table.{table, row_of, child_count, arity, tags_at, k_limit, fits, own_spot, spots_below, child_spots}
use Rattle.term.specs.Tree.{words, words_of, count, first, rest}
use Rattle.term.specs.Read.{before, under, read, read_payload, terms_of, the_term, term_of}
use Rattle.term.specs.Module.{parameters_of, body_of, arities_of, function_of, rules_from, breaker, first_breaker, check_module}
use Rattle.machine.specs.Value.{is_value, are_values, same_term, same_terms, truth}
use Rattle.machine.specs.Operator.{signed, unsigned, in_range, ranged, is_zero, divided, on_integers, if_integers, operate, operate_on}
use Rattle.machine.specs.Match.{with, children_of, is_integer, match, match_all}
use Rattle.machine.specs.Bind.{bind, bind_all, parameters}
use Rattle.machine.specs.Guard.{operate_some, before_some, guard_gives, guards_give, guard_holds}
use Rattle.machine.specs.Clauses.{if_holds, parts_take, clause_takes, first_clause}
use Rattle.machine.specs.Place.{entered, working, working_in, ready, replaced, replaced_in}
use Rattle.machine.specs.Work.{next, next_some, seq_or, body_with, case_gives, let_gives, send_to, send_work, work_at, work_of, work}

unfoldable pub opened : ℕ
unfolding member up_to same_list keep any but_last joined put table row_of child_count arity tags_at k_limit fits own_spot spots_below child_spots words words_of count first rest before under read read_payload terms_of the_term term_of parameters_of body_of arities_of function_of rules_from breaker first_breaker check_module is_value are_values same_term same_terms truth signed unsigned in_range ranged is_zero divided on_integers if_integers operate operate_on with children_of is_integer match match_all bind bind_all parameters operate_some before_some guard_gives guards_give guard_holds if_holds parts_take clause_takes first_clause entered working working_in ready replaced replaced_in next next_some seq_or body_with case_gives let_gives send_to send_work work_at work_of work
opened = 0
