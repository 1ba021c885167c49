-- Kinds of entries: those that concern nobody else are no send, no rec and no spawn.
use Prim.Native.Nat.{ℕ}
use mathlib.Core.Path.{◌≡◌, refl}
use mathlib.Core.Option.{none}
use mathlib.Core.List.{List}
use Rattle.rules.specs.State.{Kind, as_send, as_rec, as_spawn, State}
use Rattle.demands.proofs.Does.{MakesAlone, by_seq, by_self, by_check, Alone, seq_alone, self_alone, check_alone}

pub alone_send : {kind : Kind} → Alone kind → as_send kind ≡ none
unfolding as_send
alone_send seq_alone = refl
alone_send self_alone = refl
alone_send check_alone = refl

pub alone_rec : {kind : Kind} → Alone kind → as_rec kind ≡ none
unfolding as_rec
alone_rec seq_alone = refl
alone_rec self_alone = refl
alone_rec check_alone = refl

pub alone_spawn : {kind : Kind} → Alone kind → as_spawn kind ≡ none
unfolding as_spawn
alone_spawn seq_alone = refl
alone_spawn self_alone = refl
alone_spawn check_alone = refl

pub made_alone : {s : State} {p : ℕ} {control next : List ℕ} {kind : Kind} → MakesAlone s p control kind next → Alone kind
made_alone (by_seq e) = seq_alone
made_alone (by_self e) = self_alone
made_alone (by_check e) = check_alone
