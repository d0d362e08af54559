-- Lists of calls, for whoever makes them one after another.
use Rattle.std.proofs.Common.{◌≡◌, List, [], ◌∷◌, ◌++◌, length, Result, Ok, Err, OnErr, subst, refl, sym, ap, ◌∙◌, append_assoc}
use Rattle.std.proofs.lemmas.List.{append-nil, nil_from_length}
use Rattle.flurry_seq.specs.CallLists.{RunsTo, EndsEarly}

-- what is said of an error where it is so in any case
pub on_err : {T E : Type 0} (r : Result T E) (P : Type 0) → P → OnErr r P
on_err (Ok x) P p = tt
on_err (Err e) P p = p

module _ {C R M : Type 0} (answers : C → M → R → M → Type 0) where
  -- one call more
  runs_more : (calls : List C) (m : M) (rs : List R) (mid : M) (call : C) (r : R) (n : M) → RunsTo answers calls m rs mid → answers call mid r n → RunsTo answers (calls ++ call ∷ []) m (rs ++ r ∷ []) n
  runs_more [] m [] mid call r n ran answered = (n, subst (λ x. answers call x r n) ran answered, refl)
  runs_more [] m (q ∷ rs) mid call r n ran answered = absurd ran
  runs_more (c ∷ calls) m [] mid call r n ran answered = absurd ran
  runs_more (c ∷ calls) m (q ∷ rs) mid call r n ran answered = (ran.0, ran.1, runs_more calls ran.0 rs mid call r n ran.2 answered)

  -- of these calls some are left, and those before them gave these replies and led from m to n
  pub record HasRun (calls left : List C) (m : M) (rs : List R) (n : M) : Type 0 where
    pub done : List C
    pub is : calls ≡ done ++ left
    pub ran : RunsTo answers done m rs n

  -- nothing was done yet
  pub run_begins : (calls : List C) (m : M) → HasRun calls calls m [] m
  run_begins calls m = record { done = []; is = refl; ran = refl }

  -- the first of those that were left gave its reply
  pub run_goes_on : {calls left : List C} {m : M} {rs : List R} {mid : M} (call : C) (rest : List C) (r : R) (n : M) → HasRun calls left m rs mid → left ≡ call ∷ rest → answers call mid r n → HasRun calls rest m (rs ++ r ∷ []) n
  run_goes_on {m = m} {rs = rs} {mid = mid} call rest r n before first answered = record {
    done = before.done ++ call ∷ [];
    is = before.is ∙ ap (λ l. before.done ++ l) first ∙ sym (append_assoc before.done (call ∷ []) rest);
    ran = runs_more before.done m rs mid call r n before.ran answered;
  }

  -- none is left
  pub run_ends : {calls left : List C} {m : M} {rs : List R} {n : M} → HasRun calls left m rs n → length left ≡ 0 → RunsTo answers calls m rs n
  run_ends {calls} {left} {m} {rs} {n} before none =
      subst (λ l. RunsTo answers l m rs n) (sym (append-nil before.done) ∙ ap (λ l. before.done ++ l) (sym (nil_from_length left none)) ∙ sym before.is) before.ran

  module _ (refused : C → M → M → Type 0) where
    -- the first of those that were left was refused
    pub run_stops : {calls left : List C} {m : M} {rs : List R} {mid : M} (call : C) (rest : List C) (n : M) → HasRun calls left m rs mid → left ≡ call ∷ rest → refused call mid n → EndsEarly answers refused calls m n
    run_stops {rs = rs} {mid = mid} call rest n before first gone = record {
      done = before.done;
      rest = call ∷ rest;
      is = before.is ∙ ap (λ l. before.done ++ l) first;
      replies = rs;
      mid = mid;
      ran = before.ran;
      left = gone;
    }

    -- nothing was done
    pub ends_before_all : ((call : C) (m : M) → refused call m m) → (calls : List C) (m : M) → EndsEarly answers refused calls m m
    ends_before_all same [] m = record { done = []; rest = []; is = refl; replies = []; mid = m; ran = refl; left = refl }
    ends_before_all same (call ∷ calls) m = record { done = []; rest = call ∷ calls; is = refl; replies = []; mid = m; ran = refl; left = same call m }
