-- `shape::shape::runs` meets its contract.
use Rattle.shape.proofs.SpotLaws.{runs_clause, runs_case, runs_receive, runs_body, runs_alike}
use Rattle.shape.proofs.shape.runs.Goals as goal

pub returns-in-OfClause : goal.returns-in-OfClause
returns-in-OfClause c = search (runs_clause, c.in-OfClause.ensures)

pub returns-in-OfCase : goal.returns-in-OfCase
returns-in-OfCase c = search (runs_case, c.in-OfCase.ensures)

pub returns-in-OfReceive : goal.returns-in-OfReceive
returns-in-OfReceive c = search (runs_receive, c.in-OfReceive.ensures)

pub returns-in-Body : goal.returns-in-Body
returns-in-Body c = search (runs_body, c.in-Body.ensures)

pub returns-in-Alike : goal.returns-in-Alike
returns-in-Alike c = search (runs_alike, c.in-Alike.ensures)
