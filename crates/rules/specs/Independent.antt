-- Independence. 01: "Two different single steps accepted at one state are independent unless: ..".
use Rattle.std.specs.Prelude.{ℕ, ◌≡◌}
use Rattle.std.proofs.Math.Option.{Option, none, some}
use Rattle.rules.specs.State.{Taking, as_send, as_rec, as_spawn, State}
use Rattle.rules.specs.Commands.{Command, Deed, makes, undoes, delivers, undelivers, Move, accept, run}

-- not both there and the same
unfoldable pub Apart : Option ℕ → Option ℕ → Type 0
Apart none b = Unit {0}
Apart (some p) none = Unit {0}
Apart (some p) (some q) = ¬ (p ≡ q)

-- the process that a step or a back acts on; the process of a deliver or undeliver; the one of either
unfoldable pub actor : Deed → Option ℕ
actor (makes p kind) = some p
actor (undoes p count kind) = some p
actor (delivers s k t) = none
actor (undelivers t) = none

unfoldable pub mailbox : Deed → Option ℕ
mailbox (makes p kind) = none
mailbox (undoes p count kind) = none
mailbox (delivers s k t) = some t
mailbox (undelivers t) = some t

unfoldable pub acts_at : Deed → Option ℕ
acts_at (makes p kind) = some p
acts_at (undoes p count kind) = some p
acts_at (delivers s k t) = some t
acts_at (undelivers t) = some t

-- p, for a kind that is a receive
unfoldable pub if_rec : ℕ → Option Taking → Option ℕ
if_rec p none = none
if_rec p (some t) = some p

-- the process that makes or undoes a receive
unfoldable pub receiver : Deed → Option ℕ
receiver (makes p kind) = if_rec p (as_rec kind)
receiver (undoes p count kind) = if_rec p (as_rec kind)
receiver (delivers s k t) = none
receiver (undelivers t) = none

-- the place that a spawn goes into; the place whose spawn is undone
unfoldable pub spawns_into : Deed → Option ℕ
spawns_into (makes p kind) = as_spawn kind
spawns_into (undoes p count kind) = none
spawns_into (delivers s k t) = none
spawns_into (undelivers t) = none

unfoldable pub unspawns : Deed → Option ℕ
unspawns (makes p kind) = none
unspawns (undoes p count kind) = as_spawn kind
unspawns (delivers s k t) = none
unspawns (undelivers t) = none

-- the deed undoes the send of message s.k
unfoldable pub Unsends : ℕ → ℕ → Deed → Type 0
Unsends s k (makes p kind) = ⊥
Unsends s k (undoes p count kind) = (s ≡ p) × (k ≡ count) × ¬ (as_send kind ≡ none)
Unsends s k (delivers s' k' t) = ⊥
Unsends s k (undelivers t) = ⊥

-- the one delivers a message and the other undoes its send
unfoldable pub Crossed : Deed → Deed → Type 0
Crossed (makes p kind) e = ⊥
Crossed (undoes p count kind) e = ⊥
Crossed (delivers s k t) e = Unsends s k e
Crossed (undelivers t) e = ⊥

pub record IndependentDeeds (d e : Deed) : Type 0 where
  -- "both act on one process and neither is deliver or undeliver"
  pub actors : Apart (actor d) (actor e)
  -- "both are deliver or undeliver at one process"
  pub mailboxes : Apart (mailbox d) (mailbox e)
  -- "one is that at p and the other makes or undoes a receive at p"
  pub mail_receive : Apart (mailbox d) (receiver e)
  pub receive_mail : Apart (receiver d) (mailbox e)
  -- "one undoes the spawn of q and the other acts at q or delivers to it"
  pub unspawn_acts : Apart (unspawns d) (acts_at e)
  pub acts_unspawn : Apart (acts_at d) (unspawns e)
  -- "one delivers a message and the other undoes its send"
  pub delivery_unsend : ¬ Crossed d e
  pub unsend_delivery : ¬ Crossed e d
  -- "both spawn into one place"
  pub spawns : Apart (spawns_into d) (spawns_into e)

-- of two commands at a state where both are accepted
pub record Independent (s : State) (c c' : Command) : Type 0 where
  pub deed : Deed
  pub deed' : Deed
  pub move : Move
  pub move' : Move
  pub accepted : run c s ≡ accept deed move
  pub accepted' : run c' s ≡ accept deed' move'
  pub apart : IndependentDeeds deed deed'
