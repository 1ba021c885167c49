-- The rules with the state after (rules/specs/Rules) and the rules with what each writes (Does) are the same.
use Prim.Native.Nat.{ℕ, ◌<◌}
use mathlib.Core.Path.{◌≡◌, refl, sym, subst}
use mathlib.Core.Option.{some}
use mathlib.Core.List.{List, [], ◌∷◌, ◌++◌}
use lib.ListN.{length}
use Rattle.rules.specs.State.{Kind, Entry, State, history_at}
use Rattle.rules.specs.Flight.{sends, left}
use Rattle.rules.specs.Commands.{Deed, delivers, Beside, Move, turn, post, set_queue, set_beside, apply, entry_with}
use Rattle.rules.specs.Rules.{process, message, LeadsTo}
use Rattle.rules.specs.Rules
use Rattle.demands.proofs.Does.{by_seq, by_self, by_check, Makes, alone, by_send, by_receive, by_spawn, seq_alone, self_alone, check_alone, Undoes, undo_alone, undo_send, undo_receive, undo_spawn, Does, forward, backward, sched, unsched}
use Rattle.rules.proofs.Oldest.{picks_oldest}

-- what is written beside a process that makes an entry, where that leads to the state after
pub record Written (s : State) (p : ℕ) (control : List ℕ) (history : List Entry) (kind : Kind) (next : List ℕ) (after : State) : Type 0 where
  pub beside : Beside
  pub stands : s.processes p ≡ some (process control history)
  pub makes : Makes s p control kind next beside
  pub leads : apply (turn p (process next (entry_with kind control ∷ history)) beside) s ≡ after

-- and beside one whose entry is undone
pub record Restored (s : State) (p : ℕ) (before : List ℕ) (older : List Entry) (kind : Kind) (after : State) : Type 0 where
  pub beside : Beside
  pub undoes : Undoes s p (sends older) kind beside
  pub leads : apply (turn p (process before older) beside) s ≡ after

module _ {s : State} {p : ℕ} {control : List ℕ} {history : List Entry} where
  -- an entry made, as the two say it
  pub makes_so : {kind : Kind} {next : List ℕ} {beside : Beside} → s.processes p ≡ some (process control history) → Makes s p control kind next beside
      → Rules.Makes s p control history kind next (apply (turn p (process next (entry_with kind control ∷ history)) beside) s)
  unfolding apply set_beside
  makes_so i (alone (by_seq e)) = Rules.by_seq (record { stands = i; is = e })
  makes_so i (alone (by_self e)) = Rules.by_self (record { stands = i; is = e })
  makes_so i (alone (by_check e)) = Rules.by_check (record { stands = i; is = e })
  makes_so i (by_send e live) = Rules.by_send (record { stands = i; is = e }) live
  makes_so i (by_receive {takes} {m} {older} {newer} {next} e g) = Rules.by_receive (record { stands = i; is = e }) ((picks_oldest takes (s.queues p) older m newer next).0 g)
  makes_so i (by_spawn e below free) = Rules.by_spawn (record { stands = i; is = e }) below free

  pub written : {kind : Kind} {next : List ℕ} {after : State} → Rules.Makes s p control history kind next after → Written s p control history kind next after
  unfolding apply set_beside
  written (Rules.by_seq a) = record { beside = _; stands = a.stands; makes = alone (by_seq a.is); leads = refl }
  written (Rules.by_self a) = record { beside = _; stands = a.stands; makes = alone (by_self a.is); leads = refl }
  written (Rules.by_check a) = record { beside = _; stands = a.stands; makes = alone (by_check a.is); leads = refl }
  written (Rules.by_send a live) = record { beside = _; stands = a.stands; makes = by_send a.is live; leads = refl }
  written (Rules.by_receive {takes} {m} {ahead} {behind} {next} a t) =
      record { beside = _; stands = a.stands; makes = by_receive a.is ((picks_oldest takes (s.queues p) ahead m behind next).1 t); leads = refl }
  written (Rules.by_spawn a below free) = record { beside = _; stands = a.stands; makes = by_spawn a.is below free; leads = refl }

module _ {s : State} {p : ℕ} {before : List ℕ} {older : List Entry} where
  -- an entry undone
  pub undoes_so : {kind : Kind} {beside : Beside} → Undoes s p (sends older) kind beside → Rules.Undoes s p before older kind (apply (turn p (process before older) beside) s)
  unfolding apply set_beside
  undoes_so (undo_alone seq_alone) = Rules.undo_seq
  undoes_so (undo_alone self_alone) = Rules.undo_self
  undoes_so (undo_alone check_alone) = Rules.undo_check
  undoes_so (undo_send f) = Rules.undo_send f
  undoes_so (undo_receive e) = Rules.undo_receive e
  undoes_so (undo_spawn new empty quiet) = Rules.undo_spawn new empty quiet

  pub restored : {kind : Kind} {after : State} → Rules.Undoes s p before older kind after → Restored s p before older kind after
  unfolding apply set_beside
  restored Rules.undo_seq = record { beside = _; undoes = undo_alone seq_alone; leads = refl }
  restored Rules.undo_self = record { beside = _; undoes = undo_alone self_alone; leads = refl }
  restored Rules.undo_check = record { beside = _; undoes = undo_alone check_alone; leads = refl }
  restored (Rules.undo_send f) = record { beside = _; undoes = undo_send f; leads = refl }
  restored (Rules.undo_receive e) = record { beside = _; undoes = undo_receive e; leads = refl }
  restored (Rules.undo_spawn new empty quiet) = record { beside = _; undoes = undo_spawn new empty quiet; leads = refl }

-- ---- the whole
pub leads_so : {s : State} {d : Deed} {w : Move} → Does s d w → LeadsTo s d (apply w s)
unfolding apply
leads_so (forward i mk room size) = Rules.forward (makes_so i mk) room size
leads_so (backward i un) = Rules.backward i (undoes_so un)
leads_so {s} (sched {sender} {k} {t} {value} f i) = subst (λ queue. LeadsTo s (delivers sender k t) (set_queue t (queue ++ (message sender k value ∷ [])) s)) i (Rules.sched f)
leads_so {s} (unsched {t} m {queue} live i long) = Rules.unsched m queue live i (subst (λ q. length (left (history_at s t)) < length q) (sym i) long)

pub record Done (s : State) (d : Deed) (after : State) : Type 0 where
  pub move : Move
  pub does : Does s d move
  pub leads : apply move s ≡ after

pub done_so : {s : State} {d : Deed} {after : State} → LeadsTo s d after → Done s d after
unfolding apply
done_so (Rules.forward mk room size) = let w = written mk in record { move = _; does = forward w.stands w.makes room size; leads = w.leads }
done_so (Rules.backward i un) = let r = restored un in record { move = _; does = backward i r.undoes; leads = r.leads }
done_so (Rules.sched f) = record { move = _; does = sched f refl; leads = refl }
done_so {s} (Rules.unsched {t} m queue live i long) = record { move = post t queue; does = unsched m live i (subst (λ q. length (left (history_at s t)) < length q) i long); leads = refl }
