-- 01's lists clause by clause, computed.
use Prim.Native.Nat.{ℕ}
use mathlib.Core.Path.{◌≡◌, refl, sym}
use mathlib.Core.Bool.{Bool, true, not}
use mathlib.Core.Option.{Option, none, some}
use lib.Dec.{eqb}
use Rattle.lists.proofs.Tests.{none_not_some, eqb-false, not_true}
use native.Mathlib.Omega.{arith}
use Rattle.rules.specs.Commands.{Deed}
use Rattle.rules.specs.Rules.{making_of}
use Rattle.rules.specs.Independent.{Apart, actor, mailbox, acts_at, if_rec, receiver, spawns_into, unspawns, Unsends, Crossed, IndependentDeeds}
use Rattle.rules.specs.Reverse.{undeliver_of, retake, redeliver, reverse, done_at, total, amount_done}
use Rattle.rules.specs.Opened.{opened}
use Rattle.rules.specs.ClauseCases.{ran, mailed, small, DependenceClauses, IndependenceClauses, NameClauses, ReverseClauses, RoomClauses, ClauseCases}

pub dependence_clauses : DependenceClauses
unfolding opened mailed
dependence_clauses = record {
  older_entry = refl;
  newer_entry = refl;
  earlier_delivery = refl;
  later_delivery = refl;
  in_queue_before = refl;
  not_in_queue_before = refl;
  not_a_rec = refl;
  rec_before = refl;
  rec_after = refl;
  its_send = refl;
  other_send = refl;
  entry_spawned = refl;
  delivery_spawned = refl;
  other_of_parent = refl;
}

-- a test for places that are apart
unfoldable differs : Option ℕ → Option ℕ → Bool
differs none b = true
differs (some p) none = true
differs (some p) (some q) = not (eqb p q)

apart : (a b : Option ℕ) → differs a b ≡ true → Apart a b
unfolding Apart differs
apart none b e = tt
apart (some p) none e = tt
apart (some p) (some q) e = eqb-false p q (not_true (eqb p q) e)

-- deeds whose places are apart and of which neither delivers what the other unsends
free : (d e : Deed) → differs (actor d) (actor e) ≡ true → differs (mailbox d) (mailbox e) ≡ true
    → differs (mailbox d) (receiver e) ≡ true → differs (receiver d) (mailbox e) ≡ true
    → differs (unspawns d) (acts_at e) ≡ true → differs (acts_at d) (unspawns e) ≡ true
    → differs (spawns_into d) (spawns_into e) ≡ true → ¬ Crossed d e → ¬ Crossed e d → IndependentDeeds d e
free d e a b c f g h i x y = record {
  actors = apart _ _ a;
  mailboxes = apart _ _ b;
  mail_receive = apart _ _ c;
  receive_mail = apart _ _ f;
  unspawn_acts = apart _ _ g;
  acts_unspawn = apart _ _ h;
  delivery_unsend = x;
  unsend_delivery = y;
  spawns = apart _ _ i;
}

pub independence_clauses : IndependenceClauses
unfolding opened differs Apart actor mailbox acts_at if_rec receiver spawns_into unspawns Unsends Crossed
independence_clauses = record {
  one_process = λ f. f.actors refl;
  two_processes = free _ _ refl refl refl refl refl refl refl (λ x. x) (λ x. x);
  step_and_mail = free _ _ refl refl refl refl refl refl refl (λ x. x) (λ x. x);
  one_mailbox = λ f. f.mailboxes refl;
  two_mailboxes = free _ _ refl refl refl refl refl refl refl (λ x. x) (λ x. x);
  mail_and_receive = λ f. f.mail_receive refl;
  mail_and_undone_receive = λ f. f.mail_receive refl;
  receive_elsewhere = free _ _ refl refl refl refl refl refl refl (λ x. x) (λ x. x);
  undone_spawn_and_act = λ f. f.unspawn_acts refl;
  undone_spawn_and_delivery = λ f. f.unspawn_acts refl;
  undone_spawn_elsewhere = free _ _ refl refl refl refl refl refl refl (λ x. x) (λ x. omega (arith, x.0));
  delivery_and_undone_send = λ f. f.delivery_unsend (refl, refl, λ e. none_not_some (sym e));
  delivery_of_another = free _ _ refl refl refl refl refl refl refl (λ x. omega (arith, x.1)) (λ x. x);
  one_place = λ f. f.spawns refl;
  two_places = free _ _ refl refl refl refl refl refl refl (λ x. x) (λ x. x);
}

pub name_clauses : NameClauses
unfolding opened
name_clauses = record { its_name = refl; another_sender = refl; another_count = refl }

pub reverse_clauses : ReverseClauses
unfolding opened mailed ran making_of undeliver_of retake redeliver reverse done_at total amount_done
reverse_clauses = record { of_step = refl; of_spawn = refl; of_delivery = refl; of_undone_send = refl; of_undone_spawn = refl; of_undelivery = refl; amount = refl }

pub room_clauses : RoomClauses
unfolding small
room_clauses = record { exact_fit = refl; too_large_lem = refl; history_full_lem = refl; too_large_first = refl }

pub clause_cases : ClauseCases
clause_cases = record {
  dependence = dependence_clauses;
  independence = independence_clauses;
  names = name_clauses;
  reverses = reverse_clauses;
  room = room_clauses;
}
