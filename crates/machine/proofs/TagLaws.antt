-- What the table says of the tags that stand at each spot.
use Prim.Native.Nat.{ℕ, zero, suc}
use mathlib.Core.Path.{◌≡◌, refl}
use mathlib.Core.Bool.{Bool, true, false, cond, ◌&&◌}
use mathlib.Core.List.{List, [], ◌∷◌}
use lib.Dec.{eqb, leb}
use Rattle.lists.specs.Lists.{member, All}
use Rattle.lists.proofs.MemberTest.{member_all}
use Rattle.term.specs.Words.{tag_variable, tag_atom, tag_pid, tag_cons, tag_tuple, tag_call, tag_case, tag_let, tag_receive, tag_clause}
use Rattle.term.specs.Table.{alike, table, row_of, tags_at, own_spot, spot_expression, spot_guard, spot_clause, spot_value}
use Rattle.term.specs.Binding.{keeps_rule}

-- the spots outside patterns in a control
abbrev pub outside_spots : List ℕ
outside_spots = spot_expression ∷ spot_guard ∷ spot_clause ∷ spot_value ∷ []

abbrev pub Outside : ℕ → Type 0
Outside s = member s outside_spots ≡ true

pub outside_expression : Outside spot_expression
unfolding member
outside_expression = refl

-- a tag of values
pub record OfValue (places tag : ℕ) : Type 0 where
  pub children_alike : (row_of tag).children ≡ alike
  pub not_variable : eqb tag tag_variable ≡ false
  pub not_let : eqb tag tag_let ≡ false
  pub not_clause : eqb tag tag_clause ≡ false
  pub not_call : eqb tag tag_call ≡ false
  pub as_expression : member tag (tags_at places spot_expression) ≡ true
  pub as_guard : eqb places 0 ≡ false → member tag (tags_at places spot_guard) ≡ true
  pub no_rule : (arities scope : List ℕ) (n k : ℕ) → keeps_rule arities false scope [] tag n k ≡ true

infixr 20 ◌also◌
abbrev pub ◌also◌ : {A B : Type 0} → A → B → A × B
a also b = (a, b)

all_of_value : (places : ℕ) → All (OfValue places) (tags_at places spot_value)
unfolding All tags_at member row_of table keeps_rule
all_of_value places =
    of refl refl refl refl refl refl (λ e. refl) (λ a s n k. refl)
    also of refl refl refl refl refl refl (λ e. refl) (λ a s n k. refl)
    also of refl refl refl refl refl refl (λ e. rw e refl) (λ a s n k. refl)
    also of refl refl refl refl refl refl (λ e. refl) (λ a s n k. refl)
    also of refl refl refl refl refl refl (λ e. rw e refl) (λ a s n k. refl)
    also of refl refl refl refl refl refl (λ e. rw e refl) (λ a s n k. refl)
    also tt
  where
    of : {tag : ℕ} → (row_of tag).children ≡ alike → eqb tag tag_variable ≡ false → eqb tag tag_let ≡ false → eqb tag tag_clause ≡ false → eqb tag tag_call ≡ false → member tag (tags_at places spot_expression) ≡ true → (eqb places 0 ≡ false → member tag (tags_at places spot_guard) ≡ true) → ((arities scope : List ℕ) (n k : ℕ) → keeps_rule arities false scope [] tag n k ≡ true) → OfValue places tag
    of a v l c o e g r = record { children_alike = a; not_variable = v; not_let = l; not_clause = c; not_call = o; as_expression = e; as_guard = g; no_rule = r }

pub value_tag : (places tag : ℕ) → member tag (tags_at places spot_value) ≡ true → OfValue places tag
value_tag places tag h = member_all (OfValue places) tag (tags_at places spot_value) (all_of_value places) h

-- what stands below a tag at a spot outside patterns
pub data Below (s tag : ℕ) : Type 0 where
  same : (row_of tag).children ≡ alike → Outside (own_spot s tag) → Below s tag
  case : tag ≡ tag_case → Below s tag
  receive : tag ≡ tag_receive → Below s tag
  clause : tag ≡ tag_clause → Below s tag

below_expression : (places : ℕ) → All (Below spot_expression) (tags_at places spot_expression)
unfolding All tags_at member row_of table own_spot
below_expression places =
    same refl refl also same refl refl also same refl refl also same refl refl also same refl refl also same refl refl also same refl refl also same refl refl also same refl refl
    also case refl
    also same refl refl
    also receive refl
    also same refl refl also same refl refl also same refl refl also same refl refl
    also tt

below_guard : (places : ℕ) → All (Below spot_guard) (tags_at places spot_guard)
unfolding All tags_at member row_of table own_spot
below_guard places = same refl refl also same refl refl also same refl refl also same refl refl also same refl refl also more (eqb places 0)
  where
    more : (b : Bool) → All (Below spot_guard) (cond b [] (tag_pid ∷ tag_cons ∷ tag_tuple ∷ []))
    more true = tt
    more false = same refl refl also same refl refl also same refl refl also tt

below_value : (places : ℕ) → All (Below spot_value) (tags_at places spot_value)
unfolding All tags_at member row_of table own_spot
below_value places = same refl refl also same refl refl also same refl refl also same refl refl also same refl refl also same refl refl also tt

pub below : (places s tag : ℕ) → Outside s → member tag (tags_at places s) ≡ true → Below s tag
unfolding All tags_at
below places s tag o h = member_all (λ s'. member tag (tags_at places s') ≡ true → Below s' tag) s outside_spots (
    (λ m. member_all (Below spot_expression) tag (tags_at places spot_expression) (below_expression places) m)
    also (λ m. member_all (Below spot_guard) tag (tags_at places spot_guard) (below_guard places) m)
    also (λ m. member_all (Below spot_clause) tag (tags_at places spot_clause) (clause refl also tt) m)
    also (λ m. member_all (Below spot_value) tag (tags_at places spot_value) (below_value places) m)
    also tt) o h

-- of the tags of expressions those of values are 2 to 7
all_between : (places : ℕ) → All (λ tag. (leb tag_atom tag && leb tag tag_tuple) ≡ true → member tag (tags_at places spot_value) ≡ true) (tags_at places spot_expression)
unfolding All tags_at member
all_between places =
    (λ e. e) also (λ e. e) also (λ e. e) also (λ e. e) also (λ e. e) also (λ e. e) also (λ e. e) also (λ e. e)
    also (λ e. e) also (λ e. e) also (λ e. e) also (λ e. e) also (λ e. e) also (λ e. e) also (λ e. e) also (λ e. e) also tt

pub between_value : (places tag : ℕ) → member tag (tags_at places spot_expression) ≡ true → (leb tag_atom tag && leb tag tag_tuple) ≡ true → member tag (tags_at places spot_value) ≡ true
between_value places tag = member_all (λ tag'. (leb tag_atom tag' && leb tag' tag_tuple) ≡ true → member tag' (tags_at places spot_value) ≡ true) tag (tags_at places spot_expression) (all_between places)

pub value_between : (places tag : ℕ) → member tag (tags_at places spot_value) ≡ true → (leb tag_atom tag && leb tag tag_tuple) ≡ true
unfolding All tags_at
value_between places tag = member_all (λ tag'. (leb tag_atom tag' && leb tag' tag_tuple) ≡ true) tag (tags_at places spot_value) (refl also refl also refl also refl also refl also refl also tt)

guard_lift : (places tag : ℕ) → member tag (tags_at 0 spot_guard) ≡ true → member tag (tags_at places spot_guard) ≡ true
unfolding All tags_at member
guard_lift places tag h = member_all (λ tag'. member tag' (tags_at places spot_guard) ≡ true) tag (tags_at 0 spot_guard) (refl also refl also refl also refl also refl also tt) h

-- what stands at a spot of a module stands there in a control
pub tags_lift : (places s tag : ℕ) → member tag (tags_at 0 s) ≡ true → member tag (tags_at places s) ≡ true
unfolding tags_at
tags_lift places zero tag h = h
tags_lift places (suc zero) tag h = h
tags_lift places (suc (suc zero)) tag h = h
tags_lift places (suc (suc (suc zero))) tag h = guard_lift places tag h
tags_lift places (suc (suc (suc (suc zero)))) tag h = h
tags_lift places (suc (suc (suc (suc (suc zero))))) tag h = h
tags_lift places (suc (suc (suc (suc (suc (suc s)))))) tag h = h
