-- Laws of what is kept of a list.
use Rattle.std.proofs.Common.{◌≡◌, ◌≤◌, Bool, true, false, cond, List, [], ◌∷◌, ◌++◌, reverse, length, map, refl, sym, ap, ◌∙◌, subst, arith}
use Rattle.std.specs.List.{AllByRecursion}
use Rattle.std.specs.List.Sorted.{IsStrictlySortedBy}
use Rattle.std.specs.declared.cmp.Ordering.{Ordering}
use Rattle.std.specs.declared.cmp.Ordering.TheVariants.{Less}
use Rattle.std.proofs.lemmas.List.{append_assoc, reverse-append}
use Rattle.std.specs.Map.{keys_of}
use Rattle.flurry_base.specs.FiniteMap.{IsFiniteMap}
use Rattle.flurry_base.specs.Keeps.{Keeps}

-- what holds of a list with an element in front and without it holds of the one that an answer chooses
either : {X : Type 0} (P : List X → Type 0) (answer : Bool) (x : X) (rest kept : List X) → kept ≡ cond answer (x ∷ rest) rest → P (x ∷ rest) → P rest → P kept
either P true x rest kept e p q = subst P (sym e) p
either P false x rest kept e p q = subst P (sym e) q

module _ {F X : Type 0} (call : F → X → Bool → F → Type 0) where
  -- the calls at the elements that are left end those that were made; the elements kept so far are turned round
  pub record KeepsOn (first : F) (xs kept : List X) (now : F) (left : List X) : Type 0 where
    pub ends : (more : List X) (last : F) → Keeps call now left more last → Keeps call first xs (reverse kept ++ more) last

  pub KeepsOn-true : {first now next : F} {xs kept before after left : List X} {x : X} → before ≡ x ∷ left → after ≡ x ∷ kept → KeepsOn first xs kept now before → call now x true next → KeepsOn first xs after next left
  KeepsOn-true {first} {now} {next} {xs} {kept} {before} {after} {left} {x} is put h c = record {
    ends = λ more last k.
        let turned : reverse after ++ more ≡ reverse kept ++ x ∷ more = ap (λ l. reverse l ++ more) put ∙ ap (λ l. l ++ more) (reverse-append (x ∷ []) kept) ∙ append_assoc (reverse kept) (x ∷ []) more in
        subst (λ ys. Keeps call first xs ys last) (sym turned) (h.ends (x ∷ more) last (subst (λ l. Keeps call now l (x ∷ more) last) (sym is) (true, next, more, c, k, refl)));
  }

  pub KeepsOn-false : {first now next : F} {xs kept before left : List X} {x : X} → before ≡ x ∷ left → KeepsOn first xs kept now before → call now x false next → KeepsOn first xs kept next left
  KeepsOn-false {first} {now} {next} {xs} {kept} {before} {left} {x} is h c =
      record { ends = λ more last k. h.ends more last (subst (λ l. Keeps call now l more last) (sym is) (false, next, more, c, k, refl)) }

  -- no more is kept than there was
  pub Keeps-length : (first : F) (xs kept : List X) (last : F) → Keeps call first xs kept last → length kept ≤ length xs
  Keeps-length first [] kept last h = rw h.0 (omega arith)
  Keeps-length first (x ∷ xs) kept last h =
      let rest = Keeps-length h.1 xs h.2 last h.4 in
      either (λ ys. length ys ≤ length (x ∷ xs)) h.0 x h.2 kept h.5 (omega arith) (omega arith)

  -- what is true of each element is true of each that is kept
  pub Keeps-all : (P : X → Type 0) (first : F) (xs kept : List X) (last : F) → Keeps call first xs kept last → AllByRecursion P xs → AllByRecursion P kept
  Keeps-all P first [] kept last h a = rw h.0 tt
  Keeps-all P first (x ∷ xs) kept last h a =
      let rest = Keeps-all P h.1 xs h.2 last h.4 a.1 in
      either (AllByRecursion P) h.0 x h.2 kept h.5 (a.0, rest) rest

  -- what is kept of an ascending list ascends
  pub Keeps-sorted : (cmp : X → X → Ordering) (first : F) (xs kept : List X) (last : F) → Keeps call first xs kept last → IsStrictlySortedBy cmp xs → IsStrictlySortedBy cmp kept
  unfolding IsStrictlySortedBy
  Keeps-sorted cmp first [] kept last h s = rw h.0 tt
  Keeps-sorted cmp first (x ∷ xs) kept last h s =
      let rest = Keeps-sorted cmp h.1 xs h.2 last h.4 s.1 in
      either (IsStrictlySortedBy cmp) h.0 x h.2 kept h.5 (Keeps-all (λ y. cmp x y ≡ Less) h.1 xs h.2 last h.4 s.0, rest) rest

choice-map : {X Y : Type 0} (m : X → Y) (answer : Bool) (x : X) (rest : List X) → map m (cond answer (x ∷ rest) rest) ≡ cond answer (m x ∷ map m rest) (map m rest)
choice-map m true x rest = refl
choice-map m false x rest = refl

choice-append : {X : Type 0} (answer : Bool) (x : X) (rest more : List X) → cond answer (x ∷ rest) rest ++ more ≡ cond answer (x ∷ (rest ++ more)) (rest ++ more)
choice-append true x rest more = refl
choice-append false x rest more = refl

-- calls that see an element by what m gives of it
pub Keeps-map : {F X Y : Type 0} (call : F → Y → Bool → F → Type 0) (m : X → Y) (first : F) (xs kept : List X) (last : F) → Keeps (λ f x. call f (m x)) first xs kept last → Keeps call first (map m xs) (map m kept) last
Keeps-map call m first [] kept last h = (ap (map m) h.0, h.1)
Keeps-map call m first (x ∷ xs) kept last h =
    (h.0, h.1, map m h.2, h.3, Keeps-map call m h.1 xs h.2 last h.4, ap (map m) h.5 ∙ choice-map m h.0 x h.2)

-- calls on one list and then on another
pub Keeps-append : {F X : Type 0} (call : F → X → Bool → F → Type 0) (first : F) (xs kept : List X) (next : F) (ys more : List X) (last : F) → Keeps call first xs kept next → Keeps call next ys more last
    → Keeps call first (xs ++ ys) (kept ++ more) last
Keeps-append call first [] kept next ys more last h k = rw (h.0, h.1) k
Keeps-append call first (x ∷ xs) kept next ys more last h k = (
  h.0,
  h.1,
  h.2 ++ more,
  h.3,
  Keeps-append call h.1 xs h.2 next ys more last h.4 k,
  ap (λ l. l ++ more) h.5 ∙ choice-append h.0 x h.2 more,
)

module _ {F K V : Type 0} (call : F → K × V → Bool → F → Type 0) where
  Keeps-keys : (P : K → Type 0) (first : F) (m kept : List (K × V)) (last : F) → Keeps call first m kept last → AllByRecursion P (keys_of m) → AllByRecursion P (keys_of kept)
  Keeps-keys P first [] kept last h a = rw h.0 tt
  Keeps-keys P first (x ∷ m) kept last h a =
      let rest = Keeps-keys P h.1 m h.2 last h.4 a.1 in
      either (λ l. AllByRecursion P (keys_of l)) h.0 x h.2 kept h.5 (a.0, rest) rest

  -- what is kept of a finite map is one
  pub Keeps-finite_map : (cmp : K → K → Ordering) (first : F) (m kept : List (K × V)) (last : F) → Keeps call first m kept last → IsFiniteMap cmp m → IsFiniteMap cmp kept
  unfolding IsStrictlySortedBy
  Keeps-finite_map cmp first [] kept last h s = rw h.0 tt
  Keeps-finite_map cmp first (x ∷ m) kept last h s =
      let rest = Keeps-finite_map cmp h.1 m h.2 last h.4 s.1 in
      either (IsFiniteMap cmp) h.0 x h.2 kept h.5 (Keeps-keys (λ y. cmp x.0 y ≡ Less) h.1 m h.2 last h.4 s.0, rest) rest
