-- The parts of a call of two arguments, and the set that they make.
use Rattle.std.proofs.Common.{◌≡◌, ℕ, ◌<◌, ◌≤◌, List, ◌++◌, length, take, drop, refl, sym, subst, ap, ◌∙◌, arith}
use Rattle.std.specs.Prelude.{◌↔◌}
use Rattle.std.proofs.lemmas.List.{length-append}
use Rattle.id_groups.specs.Lists.{IsIn}
use Rattle.segment_codec.specs.Record.{Segment}
use Rattle.segment_codec.specs.Table.{IsHeld, IsLawful}
use Rattle.ancestor_query.specs.Graph.{table_graph}
use Rattle.set_expr.specs.declared.tree.Tree.{Tree}
use Rattle.set_expr.specs.declared.words.Call.TheVariants as calls
use Rattle.set_expr.specs.declared.words.PairCall.{PairCall}
use Rattle.set_expr.specs.Expr.{Expr, OfTwo, commits_in, node_count}
use Rattle.set_expr.specs.Ids.{with_ids}
use Rattle.set_expr.specs.Meaning as means
use Rattle.set_expr.specs.Tree.{tree_in}
use Rattle.id_groups.specs.Name.{Name}
use Rattle.set_query.specs.declared.pairs.Pairing.{Pairing}
use Rattle.set_query.specs.declared.pairs.Pairing.TheVariants as by
use Rattle.set_query.specs.Pairs.{whole_of, paired_set}
use Rattle.set_query.proofs.Ids.{Parted, parted}
use Rattle.set_query.proofs.Alike.{both, same-call, same-pair}

-- the expression of the tree is put together of its parts
pub whole-is : (tree : Expr Name) (call : PairCall) (first second one two : Tree) (whole : Expr Name) → tree ≡ OfTwo call (tree_in first) (tree_in second) → one ≡ first → two ≡ second
    → whole ≡ OfTwo call (tree_in one) (tree_in two) → tree ≡ whole
whole-is tree call first second one two whole e f g h =
    e ∙ sym (subst (λ (t : Tree). whole ≡ OfTwo call (tree_in first) (tree_in t)) g (subst (λ (t : Tree). whole ≡ OfTwo call (tree_in t) (tree_in two)) f h))

module _ {N : Type 0} where
  commits-both : (p : Pairing) (a b : Expr N) → commits_in (whole_of p a b) ≡ commits_in a ++ commits_in b
  commits-both (by.Called call) a b = refl
  commits-both by.ReachedBySecond a b = refl
  commits-both by.ReachedByFirst a b = refl
  commits-both by.MissedBySecond a b = refl

  smaller : (p : Pairing) (a b : Expr N) → (node_count a < node_count (whole_of p a b)) × (node_count b < node_count (whole_of p a b))
  smaller (by.Called call) a b = (omega arith, omega arith)
  smaller by.ReachedBySecond a b = (omega arith, omega arith)
  smaller by.ReachedByFirst a b = (omega arith, omega arith)
  smaller by.MissedBySecond a b = (omega arith, omega arith)

  -- the first part has no more names than the whole
  pub front-few : (tree : Expr N) (p : Pairing) (a b : Expr N) (n : ℕ) → tree ≡ whole_of p a b → length (commits_in tree) ≤ n → length (commits_in a) ≤ n
  front-few tree p a b n is few =
      let same : length (commits_in tree) ≡ length (commits_in a ++ commits_in b) = ap (λ (e : Expr N). length (commits_in e)) is ∙ ap length (commits-both p a b) in
      omega (arith, few, same, length-append {A = N})

  -- the parts have their ids, and are smaller than the whole
  pub record ArePaired (flats : List Segment) (tree a b : Expr N) (front back : List ℕ) : Type 0 where
    pub parts : Parted flats a b front back
    pub less_front : node_count a < node_count tree
    pub less_back : node_count b < node_count tree

  pub paired-parts : (flats : List Segment) (tree : Expr N) (p : Pairing) (a b : Expr N) (ids front back : List ℕ) (n : ℕ) → tree ≡ whole_of p a b
      → n ≡ length (commits_in a) → front ≡ take n ids → back ≡ drop n ids → length ids ≡ length (commits_in tree) → length (commits_in tree) ≤ 256
      → ((x : ℕ) → IsIn x ids → IsHeld flats x) → ArePaired flats tree a b front back
  paired-parts flats tree p a b ids front back n is count f k ids_count few held =
      let same : length (commits_in tree) ≡ length (commits_in a ++ commits_in b) = ap (λ (e : Expr N). length (commits_in e)) is ∙ ap length (commits-both p a b) in
      let less = smaller p a b in
      record {
        parts = parted flats a b ids front back n count f k (ids_count ∙ same) (subst (λ (m : ℕ). m ≤ 256) same few) held;
        less_front = subst (λ (e : Expr N). node_count a < node_count e) (sym is) less.0;
        less_back = subst (λ (e : Expr N). node_count b < node_count e) (sym is) less.1;
      }

module _ (flats : List Segment) (lawful : IsLawful flats) where
  -- the sets of both parts make what the whole means
  paired-means : {N : Type 0} (p : Pairing) (a b : Expr N) (ids : List ℕ) (x : ℕ)
      → paired_set (table_graph flats) p (means.IsMember (table_graph flats) (with_ids a (take (length (commits_in a)) ids))) (means.IsMember (table_graph flats) (with_ids b (drop (length (commits_in a)) ids))) x
      ↔ means.IsMember (table_graph flats) (with_ids (whole_of p a b) ids) x
  paired-means (by.Called call) a b ids x = ((λ h. h), (λ h. h))
  paired-means by.ReachedBySecond a b ids x = ((λ h. h), (λ h. h))
  paired-means by.ReachedByFirst a b ids x = ((λ h. h), (λ h. h))
  paired-means by.MissedBySecond a b ids x = ((λ h. h), (λ h. h))

  same-paired : (p : Pairing) (S A T B : ℕ → Type 0) → ((x : ℕ) → S x ↔ T x) → ((x : ℕ) → A x ↔ B x) → ((x : ℕ) → S x → IsHeld flats x) → ((x : ℕ) → A x → IsHeld flats x)
      → (x : ℕ) → paired_set (table_graph flats) p S A x ↔ paired_set (table_graph flats) p T B x
  same-paired (by.Called call) S A T B same other held also x = same-pair flats lawful call S A T B same other held also x
  same-paired by.ReachedBySecond S A T B same other held also x =
      let up = same-call flats lawful calls.Ancestors A B other also x in ((λ h. ((same x).0 h.0, up.0 h.1)), (λ h. ((same x).1 h.0, up.1 h.1)))
  same-paired by.ReachedByFirst S A T B same other held also x =
      let up = same-call flats lawful calls.Ancestors S T same held x in ((λ h. (up.0 h.0, (other x).0 h.1)), (λ h. (up.1 h.0, (other x).1 h.1)))
  same-paired by.MissedBySecond S A T B same other held also x =
      let up = same-call flats lawful calls.Ancestors A B other also x in ((λ h. ((same x).0 h.0, λ k. h.1 (up.1 k))), (λ h. ((same x).1 h.0, λ k. h.1 (up.0 k))))

  -- so do sets with the same members
  pub paired-members : {N : Type 0} (tree : Expr N) (p : Pairing) (a b : Expr N) (ids front back : List ℕ) → tree ≡ whole_of p a b
      → front ≡ take (length (commits_in a)) ids → back ≡ drop (length (commits_in a)) ids → (S A : ℕ → Type 0)
      → ((x : ℕ) → S x ↔ means.IsMember (table_graph flats) (with_ids a front) x) → ((x : ℕ) → A x ↔ means.IsMember (table_graph flats) (with_ids b back) x)
      → ((x : ℕ) → S x → IsHeld flats x) → ((x : ℕ) → A x → IsHeld flats x)
      → (x : ℕ) → paired_set (table_graph flats) p S A x ↔ means.IsMember (table_graph flats) (with_ids tree ids) x
  paired-members {N} tree p a b ids front back is f k S A one other held also x =
      subst (λ (e : Expr N). paired_set (table_graph flats) p S A x ↔ means.IsMember (table_graph flats) (with_ids e ids) x) (sym is)
      (both (same-paired p S A (means.IsMember (table_graph flats) (with_ids a (take (length (commits_in a)) ids))) (means.IsMember (table_graph flats) (with_ids b (drop (length (commits_in a)) ids)))
      (subst (λ (l : List ℕ). (y : ℕ) → S y ↔ means.IsMember (table_graph flats) (with_ids a l) y) f one)
      (subst (λ (l : List ℕ). (y : ℕ) → A y ↔ means.IsMember (table_graph flats) (with_ids b l) y) k other) held also x)
      (paired-means p a b ids x))
