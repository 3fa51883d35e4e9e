-- What a log keeps as it takes one more frame.
use Rattle.std.proofs.Common.{ℕ, ◌⊎◌, ◌≡◌, ◌<◌, ◌≤◌, ◌+◌, ◌-◌, ◌*◌, ◌/◌, ◌==◌, Bool, true, false, List, [], ◌∷◌, ◌++◌, length, map, filter, refl, sym, ap, ◌∙◌, subst, arith, length-append, append-nil, inl, inr, Option, Some, None}
use Rattle.std.specs.List.{AllByRecursion}
use Rattle.std.proofs.lemmas.List.{map-append}
use Rattle.std.proofs.lemmas.List.Elements.{filter-append}
use Rattle.std.proofs.lemmas.Nat.{le-div}
use Rattle.std.proofs.Math.Nat.{div-mul-le_self}
use Rattle.std.proofs.lemmas.Grind.{common_steps}
use Rattle.lift_base.specs.declared.limits.TheConstants.{MOST_FRAMES}
use Rattle.lift_model.specs.Records.{FrameData}
use Rattle.can_log.specs.declared.log.Taken.{Taken}
use Rattle.can_log.specs.Taken.{LogData, tick_at, first_or, frames_in, with_frame}
use Rattle.can_log.specs.Kept.{IsSorted, ComesTo, IsLog}

abbrev pub Within : ℕ → Taken → Type 0
Within n t = (1 ≤ t.tick) × (t.tick ≤ n)

abbrev made : ℕ → FrameData → Taken
made n f = record { tick = n; frame = f }

-- one more, and what it is where its tick is known
frames_more : (n : ℕ) (t : Taken) (ts : List Taken) → frames_in n (ts ++ t ∷ []) ≡ frames_in n ts ++ frames_in n (t ∷ [])
frames_more n t ts = ap (map (λ u. u.frame)) (filter-append (λ u. u.tick == n) ts (t ∷ []))
    ∙ map-append (λ u. u.frame) (filter (λ u. u.tick == n) ts) (filter (λ u. u.tick == n) (t ∷ []))

pub is_other : (a b : ℕ) → (a ≡ b → ⊥) → (a == b) ≡ false
is_other a b h = grind (arith, common_steps)

pub is_same : (a : ℕ) → (a == a) ≡ true
is_same a = grind (arith, common_steps)

pub frames_push : (n : ℕ) (f : FrameData) (ts : List Taken) → frames_in n (ts ++ made n f ∷ []) ≡ frames_in n ts ++ f ∷ []
frames_push n f ts = frames_more n (made n f) ts ∙ rw (is_same n) refl

pub frames_push_other : (m n : ℕ) (f : FrameData) (ts : List Taken) → (n ≡ m → ⊥) → frames_in m (ts ++ made n f ∷ []) ≡ frames_in m ts
frames_push_other m n f ts other = frames_more m (made n f) ts ∙ rw (is_other n m other) (append-nil (frames_in m ts))

-- there is none of a later tick
pub frames_none : (n m : ℕ) (ts : List Taken) → AllByRecursion (Within n) ts → n < m → frames_in m ts ≡ []
frames_none n m [] all later = refl
frames_none n m (t ∷ ts) (one, all) later =
    let other : t.tick ≡ m → ⊥ = λ e. absurd (omega (arith, one.1, e)) in
    rw (is_other t.tick m other) (frames_none n m ts all later)

all_push : {A : Type 0} (P : A → Type 0) (xs : List A) (x : A) → AllByRecursion P xs → P x → AllByRecursion P (xs ++ x ∷ [])
all_push P [] x all is = (is, tt)
all_push P (y ∷ ys) x (one, all) is = (one, all_push P ys x all is)

all_from : {A : Type 0} (P Q : A → Type 0) (xs : List A) → ((x : A) → P x → Q x) → AllByRecursion P xs → AllByRecursion Q xs
all_from P Q [] each all = tt
all_from P Q (x ∷ xs) each (one, all) = (each x one, all_from P Q xs each all)

pub reach_more : (n m : ℕ) (ts : List Taken) → n ≤ m → AllByRecursion (Within n) ts → AllByRecursion (Within m) ts
reach_more n m ts later all = all_from (Within n) (Within m) ts (λ t is. (is.0, omega (arith, is.1))) all

pub sorted_push : (n : ℕ) (f : FrameData) (ts : List Taken) → IsSorted ts → AllByRecursion (Within n) ts → IsSorted (ts ++ made n f ∷ [])
sorted_push n f [] sorted all = (tt, tt)
sorted_push n f (t ∷ ts) (one, sorted) (is, all) =
    (all_push (λ u. t.tick ≤ u.tick) ts (made n f) one is.1, sorted_push n f ts sorted all)

few_by : (n : ℕ) (f : FrameData) (ts : List Taken) (m : ℕ) (test : Bool) → (n == m) ≡ test
    → ((k : ℕ) → length (frames_in k ts) ≤ MOST_FRAMES) → length (frames_in n ts) < MOST_FRAMES
    → length (frames_in m (ts ++ made n f ∷ [])) ≤ MOST_FRAMES
few_by n f ts m true e few room =
    let same : n ≡ m = grind (arith, common_steps) in
    let grown = ap length (frames_push n f ts) ∙ length-append (frames_in n ts) (f ∷ []) in
    let P : ℕ → Type 0 = λ k. length (frames_in k (ts ++ made n f ∷ [])) ≤ MOST_FRAMES in
    subst P same (omega (arith, grown, room))
few_by n f ts m false e few room =
    let other : n ≡ m → ⊥ = λ same. grind (arith, common_steps) in
    rw (frames_push_other m n f ts other) (few m)

-- one more where there is room
pub few_push : (n : ℕ) (f : FrameData) (ts : List Taken) → ((k : ℕ) → length (frames_in k ts) ≤ MOST_FRAMES)
    → length (frames_in n ts) < MOST_FRAMES → (m : ℕ) → length (frames_in m (ts ++ made n f ∷ [])) ≤ MOST_FRAMES
few_push n f ts few room m = few_by n f ts m (n == m) refl few room

pub push_keeps : (log : LogData) (here : ℕ) (f : FrameData) → IsLog log here → 1 ≤ log.ticks → here < MOST_FRAMES
    → IsLog (with_frame log log.ticks f) (here + 1)
push_keeps log here f is some room =
    let n = log.ticks in
    let grown : length (frames_in n (log.taken ++ made n f ∷ [])) ≡ here + 1 =
    ap length (frames_push n f log.taken) ∙ length-append (frames_in n log.taken) (f ∷ []) ∙ omega (arith, is.here_is) in
    record {
      some_time = is.some_time;
      comes = is.comes;
      most = is.most;
      sorted = sorted_push n f log.taken is.sorted is.reach;
      reach = all_push (Within n) log.taken (made n f) is.reach (some, omega arith);
      few = few_push n f log.taken is.few (omega (arith, is.here_is, room));
      here_is = sym grown;
    }

-- a later time has no earlier tick
pub tick_later : (first tick last time : ℕ) → 0 < tick → last ≤ time → tick_at first tick last ≤ tick_at first tick time
tick_later first tick last time some later =
    let below : (last - first) / tick * tick ≤ time - first = omega (arith, div-mul-le_self (last - first) tick) in
    omega (arith, le-div ((last - first) / tick) (time - first) tick some below)

later_tick : (o : Option ℕ) (first tick last time ticks : ℕ) → 0 < tick → ComesTo o tick last ticks → first ≡ first_or time o → last ≤ time
    → (ticks ≤ tick_at first tick time) × (first ≤ time)
later_tick None first tick last time ticks some comes is later = (omega (arith, comes.1), omega (arith, is))
later_tick (Some f) first tick last time ticks some comes is later =
    let grown = tick_later f tick last time some later in
    let P : ℕ → Type 0 = λ k. ticks ≤ tick_at k tick time in
    (subst P (sym is) (omega (arith, comes.1, grown)), omega (arith, is, comes.0))

-- how many frames of the tick there are, by whether it is a new one
abbrev pub CountsHere : LogData → ℕ → ℕ → ℕ → Type 0
CountsHere log here n here' = (here' ≡ here × (n ≤ log.ticks)) ⊎ ((here' ≡ 0) × (log.ticks < n))

pub come_keeps : (log : LogData) (here first time n here' : ℕ) → IsLog log here → first ≡ first_or time log.first → log.last ≤ time
    → n ≡ tick_at first log.taking.tick time → n ≤ log.taking.most → CountsHere log here n here'
    → IsLog (record log { first = Some first; last = time; ticks = n }) here'
come_keeps log here first time n here' is is_first later is_tick most counts =
    let grown = later_tick log.first first log.taking.tick log.last time log.ticks is.some_time is.comes is_first later in
    let on : log.ticks ≤ n = omega (arith, grown.0, is_tick) in
    let here_is : here' ≡ length (frames_in n log.taken) = elim counts [
      | inl h ↦ let same : log.ticks ≡ n = omega (arith, h.1) in
          h.0 ∙ is.here_is ∙ ap (λ (k : ℕ). length (frames_in k log.taken)) same
      | inr h ↦ h.0 ∙ sym (ap length (frames_none log.ticks n log.taken is.reach h.1))
    ] in
    record {
      some_time = is.some_time;
      comes = (grown.1, is_tick);
      most = most;
      sorted = is.sorted;
      reach = reach_more log.ticks n log.taken on is.reach;
      few = is.few;
      here_is = here_is;
    }
