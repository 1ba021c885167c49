-- The links of an entry are of one that a history has. Laws with proofs stand here since the implementations of `Sort` cite them, and
-- source cites of its own crate only its specs.
use Rattle.std.specs.Prelude.{ℕ, ◌<◌, length}
use Rattle.rules.specs.State.{State, history_at}
use Rattle.rules.specs.Depends.{Series, level}
use Rattle.demands.proofs.EventDepends.{stands_low}
use Rattle.links.specs.Listed.{TiesAt, rec_at, since_at, send_at, child_at, mail_at, AimsAt, aim_at}

pub ties_inside : (p : ℕ) (s : State) (x : Series) (a : ℕ) (y : Series) (b j : ℕ) → TiesAt p j s x a y b → j < length (history_at s p)
unfolding level
ties_inside p s x a y b j (rec_at st is e) = stands_low st
ties_inside p s x a y b j (since_at st is) = stands_low st
ties_inside p s x a y b j (send_at r st is u v) = stands_low st
ties_inside p s x a y b j (child_at st is) = stands_low st
ties_inside p s x a y b j (mail_at st is) = stands_low st

pub aims_inside : (p : ℕ) (s : State) (x : Series) (a : ℕ) (y : Series) (b j : ℕ) → AimsAt p j s x a y b → j < length (history_at s p)
unfolding level
aims_inside p s x a y b j (aim_at st is st' is') = stands_low st
