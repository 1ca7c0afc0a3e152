-- Mirrors of small worlds serve them.
use Rattle.std.proofs.Common.{◌≡◌, ◌<◌, ℕ, Bool, true, not, ◌&&◌, inl, inr, List, [], ◌∷◌, ◌++◌, length, refl, sym, ap, ◌∙◌, Some, leb, arith, lit<, lit≤}
use Rattle.std.specs.Prelude.{unwrap_or}
use Rattle.std.proofs.lemmas.Bool.{leb-true}
use Rattle.std.specs.List.{AllByRecursion}
use Rattle.id_groups.specs.Lists.{IsIn, AreAllIn, AreDistinct, is_in}
use Rattle.id_groups.specs.Name.{Name, IsName, same_name}
use Rattle.id_groups.proofs.Names.{same_name-exact, same_name-self}
use Rattle.id_groups.proofs.Listing.{found, there, and_true, not_true}
use Rattle.commit_graph.specs.World.{Row, IsNext, IsHistory, IsNamedWorld, empty_world}
use Rattle.commit_graph.proofs.Down.{in-left}
use Rattle.remote_rules.specs.Mirror.{Mirror}
use Rattle.remote_rules.specs.Honest.{IsHonest}
use Rattle.remote_rules.specs.Serving.{AllServe}
use Rattle.run_rules.specs.Premises.{AllBegin, HaveOneOrder}
use Rattle.worked_rows.specs.Worlds.{n, on, ten, twelve, aside}
use Rattle.worked_rows.specs.Remotes.{steady}

-- a world by tests
abbrev all_known : List Name → List Name → Bool
all_known [] before = true
all_known (p ∷ ps) before = is_in same_name p before && all_known ps before

abbrev all_new : List Name → Bool
all_new [] = true
all_new (x ∷ xs) = not (is_in same_name x xs) && all_new xs

abbrev is_next : List Name → Row Name → Bool
is_next before row = not (is_in same_name row.name before) && (all_known row.parents before && (all_new row.parents && leb (length row.parents) 8))

abbrev is_history : List Name → List (Row Name) → Bool
is_history before [] = true
is_history before (row ∷ rows) = is_next before row && is_history (before ++ row.name ∷ []) rows

isn't-in : (x : Name) (xs : List Name) → not (is_in same_name x xs) ≡ true → IsIn x xs → ⊥
isn't-in x xs e i = not_true (is_in same_name x xs) e (there same_name same_name-exact same_name-self x xs i)

known-all : (ps before : List Name) → all_known ps before ≡ true → AreAllIn ps before
known-all [] before e = tt
known-all (p ∷ ps) before e =
    let both = and_true (is_in same_name p before) (all_known ps before) e in
    (found same_name same_name-exact same_name-self p before both.0, known-all ps before both.1)

new-all : (xs : List Name) → all_new xs ≡ true → AreDistinct xs
new-all [] e = tt
new-all (x ∷ xs) e =
    let both = and_true (not (is_in same_name x xs)) (all_new xs) e in
    (isn't-in x xs both.0, new-all xs both.1)

next-by : (before : List Name) (row : Row Name) → is_next before row ≡ true → IsNext before row
next-by before row e =
    let one = and_true (not (is_in same_name row.name before)) _ e in
    let two = and_true (all_known row.parents before) _ one.1 in
    let three = and_true (all_new row.parents) (leb (length row.parents) 8) two.1 in
    record {
      fresh = isn't-in row.name before one.0;
      known = known-all row.parents before two.0;
      distinct = new-all row.parents three.0;
      few = leb-true (length row.parents) 8 three.1;
    }

history-by : (before : List Name) (rows : List (Row Name)) → is_history before rows ≡ true → IsHistory before rows
history-by before [] e = tt
history-by before (row ∷ rows) e =
    let both = and_true (is_next before row) (is_history (before ++ row.name ∷ []) rows) e in
    (next-by before row both.0, history-by (before ++ row.name ∷ []) rows both.1)

zeros-are-bytes : (b : ℕ) → b < 256 → AllByRecursion (λ a. a < 256) (n b)
zeros-are-bytes b lt =
    let z : 0 < 256 = lit< tt in
    (z, (z, (z, (z, (z, (z, (z, (z, (z, (z, (z, (z, (z, (z, (z, (z, (z, (z, (z, (lt, tt))))))))))))))))))))

named : (b : ℕ) → b < 256 → IsName (n b)
named b lt = (refl, zeros-are-bytes b lt)

ten-named : IsNamedWorld ten
ten-named = record {
  world = history-by [] ten.master refl;
  names = (
    named 0x10 (lit< tt),
    (
      named 0x11 (lit< tt),
      (
        named 0x12 (lit< tt),
        (
          named 0x13 (lit< tt),
          (
            named 0x14 (lit< tt),
            (named 0x15 (lit< tt), (named 0x16 (lit< tt), (named 0x17 (lit< tt), (named 0x18 (lit< tt), (named 0x19 (lit< tt), tt))))),
          ),
        ),
      ),
    ),
  );
}

twelve-named : IsNamedWorld twelve
twelve-named = record {
  world = history-by [] twelve.master refl;
  names = (
    named 0x10 (lit< tt),
    (
      named 0x11 (lit< tt),
      (
        named 0x12 (lit< tt),
        (
          named 0x13 (lit< tt),
          (
            named 0x14 (lit< tt),
            (
              named 0x15 (lit< tt),
              (
                named 0x16 (lit< tt),
                (
                  named 0x17 (lit< tt),
                  (
                    named 0x18 (lit< tt),
                    (
                      named 0x19 (lit< tt),
                      (named 0x1a (lit< tt), (named 0x1b (lit< tt), tt)),
                    ),
                  ),
                ),
              ),
            ),
          ),
        ),
      ),
    ),
  );
}

aside-named : IsNamedWorld aside
aside-named = record { world = history-by [] aside.master refl; names = (named 0x10 (lit< tt), (named 0x20 (lit< tt), (named 0x11 (lit< tt), (named 0x12 (lit< tt), (named 0x13 (lit< tt), (named 0x14 (lit< tt), (named 0x15 (lit< tt), (named 0x16 (lit< tt), (named 0x17 (lit< tt), (named 0x18 (lit< tt), (named 0x19 (lit< tt), tt))))))))))) }

pub ten-honest : IsHonest (steady ten).cloned ten.master
ten-honest = record { world = ten-named; clone = refl }

pub twelve-honest : IsHonest (steady twelve).cloned twelve.master
twelve-honest = record { world = twelve-named; clone = refl }

aside-honest : IsHonest (steady aside).cloned aside.master
aside-honest = record { world = aside-named; clone = refl }

pub serves-fresh : AllServe 0 empty_world (steady ten ∷ [])
serves-fresh = record { each = ((ten.master, refl, ten-honest, λ row i. absurd i), tt); first_clone = λ e. inl (lit≤ tt) }

pub serve-ten : AllServe 10 ten (steady ten ∷ steady twelve ∷ [])
serve-ten = record {
  each = ((ten.master, refl, ten-honest, λ row i. i), ((twelve.master, refl, twelve-honest, λ row i. in-left row ten.master (on 0x1a (0x19 ∷ []) ∷ on 0x1b (0x1a ∷ []) ∷ []) i), tt));
  first_clone = λ e. absurd (omega (arith, e));
}

pub begins-twelve : (lines : List (List ℕ)) → AllBegin 10 ten (steady twelve ∷ []) lines
begins-twelve lines = record { each = ((twelve.master, refl, twelve-honest, _, refl), tt); first_clone = λ has e. inl (lit≤ tt) }

pub begin-cloned : (lines : List (List ℕ)) → AllBegin 0 empty_world (steady ten ∷ steady ten ∷ []) lines
begin-cloned lines = record {
  each = ((ten.master, refl, ten-honest, ten.master, refl), ((ten.master, refl, ten-honest, ten.master, refl), tt));
  first_clone = λ has e. inr one-order;
}
  where
    some-rows : (a b : List (Row Name)) → Some a ≡ Some b → a ≡ b
    some-rows a b e = ap (λ o. unwrap_or o a) e

    its : (m : Mirror) (q : List (Row Name)) → IsIn m (steady ten ∷ steady ten ∷ []) → m.master ≡ Some q → ten.master ≡ q
    its m q (inl e) h = some-rows ten.master q (sym (ap (λ (x : Mirror). x.master) e) ∙ h)
    its m q (inr (inl e)) h = some-rows ten.master q (sym (ap (λ (x : Mirror). x.master) e) ∙ h)
    its m q (inr (inr none)) h = absurd none

    one-order : HaveOneOrder (steady ten ∷ steady ten ∷ [])
    one-order m k q r i j a b = sym (its m q i a) ∙ its k r j b

-- a row of the ten is one of those with another root
aside-has : (row : Row Name) → IsIn row ten.master → IsIn row aside.master
aside-has row (inl e) = inl e
aside-has row (inr i) = inr (inr i)

pub serve-aside : AllServe 10 ten (steady ten ∷ steady aside ∷ [])
serve-aside = record {
  each = ((ten.master, refl, ten-honest, λ row i. i), ((aside.master, refl, aside-honest, aside-has), tt));
  first_clone = λ e. absurd (omega (arith, e));
}
