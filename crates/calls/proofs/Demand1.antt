-- Every call ends with one of 01's numbers, and a refusal alters nothing.
use Prim.Native.Nat.{ℕ, ◌≤◌}
use mathlib.Core.Path.{◌≡◌, refl, sym, ◌∙◌, subst}
use mathlib.Core.Logic.{◌≢◌}
use mathlib.Core.Bool.{Bool, true, false}
use mathlib.Core.Option.{Option, none, some}
use mathlib.Core.List.{List, List-discrete, ◌++◌}
use native.Mathlib.Decide.{ℕ_discrete, dec_le}
use native.Mathlib.Omega.{arith}
use lib.Dec.{leb}
use lib.ListN.{length}
use Rattle.rules.specs.Answers.{done, bad_line}
use Rattle.rules.specs.State.{Sizes, State}
use Rattle.rules.specs.Sound.{Sound}
use Rattle.rules.specs.Commands.{Plan, refuse, accept, run}
use Rattle.rules.specs.Line.{Request, single, rollback_to, parse_line}
use Rattle.rules.specs.Rollback.{RolledBack, rolled, rollback}
use Rattle.rules.specs.Rollback
use Rattle.rules.specs.Replies.{of_plan, of_rollback, perform}
use Rattle.rules.specs.Listing.{listing}
use Rattle.store.specs.Layout.{image}
use Rattle.store.specs.Image.{IsImage}
use Rattle.store.specs.Loading.{Outcome, load_into}
use Rattle.store.proofs.LoadCodeSound.{short, bad, good, goes}
use Rattle.calls.specs.Calls.{OfStore, stored, refused_store, written, RequestCall, AskedCall, LineCall, ListingCall, LoadCall}
use Rattle.calls.specs.Demand1.{Ends, Demand1}
use Rattle.calls.proofs.Accepted.{below_request}

-- an outcome that keeps demand 1
record Kept (lent : List ℕ) (o : Outcome) : Type 0 where
  numbered : o.number ≤ bad_line
  unaltered : o.number ≢ done → o.left ≡ lent

kept_so : {lent : List ℕ} {o o' : Outcome} → o ≡ o' → Kept lent o' → Kept lent o
kept_so {lent} e k = subst (Kept lent) (sym e) k

ends_of : {Call : List ℕ → Outcome → Type 0} → ((lent : List ℕ) (o : Outcome) → Call lent o → Kept lent o) → Ends Call
ends_of f = record { numbered = λ lent o c. (f lent o c).numbered; unaltered = λ lent o c n. (f lent o c).unaltered n }

-- what holds of an outcome on every image, and of the one elsewhere, holds: both facts are decidable
stable : {A : Type 0} → Dec A → ¬ (¬ A) → A
stable (yes a) h = a
stable (no n) h = absurd (h n)

of_store : {entry lent : List ℕ} {of : State → List ℕ → Outcome} {otherwise o : Outcome} → OfStore entry of otherwise o
    → ((s : State) (rest : List ℕ) → Sound s → entry ≡ image s ++ rest → Kept lent (of s rest)) → Kept lent otherwise → Kept lent o
of_store {entry} {lent} {of} {otherwise} {o} c there elsewhere = record {
  numbered = stable (dec_le o.number bad_line) (λ n. sure (λ k. n k.numbered));
  unaltered = λ n. stable (List-discrete ℕ_discrete o.left lent) (λ x. sure (λ k. x (k.unaltered n)));
}
  where
    sure : ¬ (¬ Kept lent o)
    sure never =
        let no_image : ¬ IsImage entry = λ x. never (kept_so (c.on_image x.state x.rest x.sound x.words) (there x.state x.rest x.sound x.words)) in
        never (kept_so (c.elsewhere no_image) elsewhere)

refused_store_lem : (lent : List ℕ) → Kept lent (refused_store lent)
refused_store_lem lent = record { numbered = omega arith; unaltered = λ n. refl }

-- ---- requests: what is refused leaves the state, so the words
plan_kept : (s : State) (rest : List ℕ) (plan : Plan) → (stored (of_plan s plan) rest).number ≢ done → (stored (of_plan s plan) rest).left ≡ image s ++ rest
unfolding stored of_plan
plan_kept s rest (refuse number) n = refl
plan_kept s rest (accept deed move) n = absurd (n refl)

rolled_kept : (s : State) (rest : List ℕ) (r : RolledBack) → (stored (of_rollback s r) rest).number ≢ done → (stored (of_rollback s r) rest).left ≡ image s ++ rest
unfolding stored of_rollback
rolled_kept s rest (Rollback.refused number) n = refl
rolled_kept s rest (rolled count end) n = absurd (n refl)

request_kept : (request : Request) (s : State) (rest : List ℕ) → (stored (perform request s) rest).number ≢ done → (stored (perform request s) rest).left ≡ image s ++ rest
unfolding perform
request_kept (single c) s rest n = plan_kept s rest (run c s) n
request_kept (rollback_to p t) s rest n = rolled_kept s rest (rollback p t s) n

request_ends : (request : Request) (entry : List ℕ) (o : Outcome) → RequestCall request entry o → Kept entry o
unfolding RequestCall
request_ends request entry o c =
    of_store c (λ s rest sound words. record {
      numbered = omega (arith, below_request request s rest sound);
      unaltered = λ n. request_kept request s rest n ∙ sym words;
    }) (refused_store_lem entry)

asked_ends : (asked : Option Request) (entry : List ℕ) (o : Outcome) → AskedCall asked entry o → Kept entry o
unfolding AskedCall
asked_ends none entry o c = kept_so c (record { numbered = omega arith; unaltered = λ n. refl })
asked_ends (some request) entry o c = request_ends request entry o c

-- ---- the listing
written_kept : (text out : List ℕ) (b : Bool) → leb (length text) (length out) ≡ b → Kept out (written text out)
unfolding written
written_kept text out true e = record { numbered = rw (written, e) (omega arith); unaltered = λ n. absurd (n (rw (written, e) refl)) }
written_kept text out false e = record { numbered = rw (written, e) (omega arith); unaltered = λ n. rw (written, e) refl }

-- ---- load
load_ends : (module' : List ℕ) (sizes : Sizes) (entry : List ℕ) → Kept entry (load_into module' sizes entry)
load_ends module' sizes entry = elim (goes module' sizes entry) [
  | short e ↦ kept_so e (record { numbered = omega arith; unaltered = λ n. refl })
  | bad at e ↦ kept_so e (record { numbered = omega arith; unaltered = λ n. refl })
  | good it e ↦ kept_so e (record { numbered = omega arith; unaltered = λ n. absurd (n refl) })
]

pub demand1 : Demand1
unfolding LineCall ListingCall LoadCall
demand1 = record {
  load = λ module' sizes. ends_of (λ entry o c. kept_so c (load_ends module' sizes entry));
  request = λ request. ends_of (request_ends request);
  line = λ line. ends_of (asked_ends (parse_line line));
  listing = λ store. ends_of (λ out o c. of_store c (λ s rest sound words. written_kept (listing s) out _ refl) (refused_store_lem out));
}
