-- What stands past the needed words changes no answer, and stays.
use Prim.Native.Nat.{ℕ, ◌≤◌}
use mathlib.Core.Path.{◌≡◌, refl, sym, ◌∙◌, ap}
use mathlib.Core.Logic.{inl, inr}
use mathlib.Core.Bool.{true, false, ◌&&◌}
use mathlib.Core.Option.{Option, none, some}
use mathlib.Core.List.{List, ◌++◌, append_assoc}
use native.Mathlib.Omega.{arith}
use lib.Dec.{leb}
use lib.ListN.{length, drop, length-append}
use lib.Seq.{drop-append-le}
use Rattle.lists.proofs.Tests.{true_or_false, leb_of, and_of}
use Rattle.term.specs.Module.{check_module}
use Rattle.rules.specs.Answers.{done}
use Rattle.rules.specs.State.{Sizes, State}
use Rattle.rules.specs.Sound.{Sound}
use Rattle.rules.specs.Load.{good_sizes, loaded, refused, loads, load}
use Rattle.rules.specs.Line.{Request}
use Rattle.rules.specs.Replies.{perform}
use Rattle.store.specs.Layout.{needed, image}
use Rattle.store.specs.Loading.{Outcome, after_load, load_into}
use Rattle.store.proofs.LoadCodeAnswers.{into_short, into_load, load_refused, load_loads}
use Rattle.calls.specs.Calls.{outcome, stored, RequestCall, ListingCall, LoadCall}
use Rattle.calls.specs.Promises.{PastIsLeft}

past_request : (request : Request) (s : State) (rest rest' : List ℕ) (o o' : Outcome) → Sound s → RequestCall request (image s ++ rest) o → RequestCall request (image s ++ rest') o'
    → (end : State) × (o.left ≡ image end ++ rest) × (o' ≡ outcome o.number o.value (image end ++ rest'))
unfolding RequestCall stored
past_request request s rest rest' o o' sound call call' =
    let is = call.on_image s rest sound refl in
    let end = (perform request s).after in
    (end, ap (λ (x : Outcome). x.left) is, call'.on_image s rest' sound refl ∙ sym (ap (λ (x : Outcome). outcome x.number x.value (image end ++ rest')) is))

past_listing : (s : State) (rest rest' out : List ℕ) (o o' : Outcome) → Sound s → ListingCall (image s ++ rest) out o → ListingCall (image s ++ rest') out o' → o ≡ o'
unfolding ListingCall
past_listing s rest rest' out o o' sound call call' = call.on_image s rest sound refl ∙ sym (call'.on_image s rest' sound refl)

-- an outcome with words behind what is left
abbrev behind : Outcome → List ℕ → Outcome
behind o rest = outcome o.number o.value (o.left ++ rest)

past_loaded : (module' : List ℕ) (sizes : Sizes) (l rest : List ℕ) → needed sizes ≤ length l → after_load (l ++ rest) (loads (loaded module' sizes)) ≡ behind (after_load l (loads (loaded module' sizes))) rest
unfolding after_load loaded
past_loaded module' sizes l rest h =
    let front = image (loaded module' sizes) in
    ap (λ (x : List ℕ). outcome done 0 (front ++ x)) (drop-append-le (needed sizes) l rest h) ∙ ap (λ (x : List ℕ). outcome done 0 x) (sym (append_assoc front (drop (needed sizes) l) rest))

past_refused : (l rest : List ℕ) (number at : ℕ) → after_load (l ++ rest) (refused number at) ≡ behind (after_load l (refused number at)) rest
unfolding after_load
past_refused l rest number at = refl

past_after : (module' : List ℕ) (sizes : Sizes) (l rest : List ℕ) (checked : Option ℕ) → good_sizes sizes ≡ true → check_module module' ≡ checked → needed sizes ≤ length l
    → after_load (l ++ rest) (load module' sizes) ≡ behind (after_load l (load module' sizes)) rest
past_after module' sizes l rest none good e h = rw (load_loads module' sizes l good e) (past_loaded module' sizes l rest h)
past_after module' sizes l rest (some at) good e h = rw (load_refused module' sizes l at good e) (past_refused l rest _ at)

past_into : (module' : List ℕ) (sizes : Sizes) (l rest : List ℕ) → length l ≡ needed sizes → load_into module' sizes (l ++ rest) ≡ behind (load_into module' sizes l) rest
past_into module' sizes l rest e =
    let within : needed sizes ≤ length l = omega arith in
    let further : needed sizes ≤ length (l ++ rest) = let n = length-append l rest in omega arith in
    elim (true_or_false (good_sizes sizes)) [
      | inl good ↦
          into_load module' sizes (l ++ rest) (and_of good (leb_of _ _ further)) ∙ past_after module' sizes l rest (check_module module') good refl within
          ∙ sym (ap (λ (x : Outcome). behind x rest) (into_load module' sizes l (and_of good (leb_of _ _ within))))
      | inr bad ↦
          let short : (m : List ℕ) → (good_sizes sizes && leb (needed sizes) (length m)) ≡ false = λ m. ap (λ b. b && leb (needed sizes) (length m)) bad in
          into_short module' sizes (l ++ rest) (short (l ++ rest)) ∙ sym (ap (λ (x : Outcome). behind x rest) (into_short module' sizes l (short l)))
    ]

past_load : (module' : List ℕ) (sizes : Sizes) (l rest : List ℕ) (o o' : Outcome) → length l ≡ needed sizes → LoadCall module' sizes l o → LoadCall module' sizes (l ++ rest) o'
    → o' ≡ outcome o.number o.value (o.left ++ rest)
unfolding LoadCall
past_load module' sizes l rest o o' e call call' = call' ∙ past_into module' sizes l rest e ∙ sym (ap (λ (x : Outcome). behind x rest) call)

pub past_is_left : PastIsLeft
past_is_left = record { request = past_request; listing = past_listing; load = past_load }
