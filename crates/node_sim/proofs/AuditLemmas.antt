-- The audit tick by tick.
use Rattle.std.proofs.Common.{◌≡◌, ◌≢◌, ℕ, ◌+◌, ◌-◌, ◌<◌, ◌≤◌, Bool, true, false, refl, sym, ap, ◌∙◌, arith, inl, inr, cond, leb, add-one, List, [], ◌∷◌, ◌++◌, length, map, take, drop, get_or, Option, Some, None}
use Rattle.std.specs.Prelude.{◌&&◌, ◌||◌, ◌==◌, ◌⊎◌, not, slice_get}
use Rattle.std.proofs.Math.Seq.{drop-cons}
use Rattle.std.proofs.lemmas.Bool.{true≢false, eq-eqb, ne_eqb}
use Rattle.std.proofs.lemmas.List.{append-nil, take_more, drop_all}
use Rattle.std.proofs.lemmas.Option.{slice_get_within, get_or_from_slice_get}
use Rattle.std.proofs.lemmas.Bool.Decides.{nat_tests}
use Rattle.core_model.proofs.TruthLemmas.{frames_from-append}
use Rattle.lift_model.specs.Bits.{or_else}
use Rattle.lift_model.specs.Enums.{Kind, Off, Side, A, B}
use Rattle.lift_model.specs.Records.{Settings, InputData}
use Rattle.lift_model.specs.Trace.{frames_from}
use Rattle.core_model.specs.Backed.{Backed}
use Rattle.core_model.specs.Settling.{Settled, no_settled, out_at}
use Rattle.core_model.specs.Words.{is_off, stamp_of}
use Rattle.round_model.specs.Parts.{faults_of, failed_by, failed_from, has_failed, is_healthy_by_script}
use Rattle.node_sim.proofs.WrongLemmas.{first_wrong-append}
use Rattle.node_sim.specs.Audited.{age_at, at_tick, first_wrong_in, greatest, oldest_at, side_age, oldest_from, is_unhealthy, unhealthy_from}
use Rattle.script_model.specs.declared.audits.Wrong.{Wrong}

-- ---- the greatest

max_assoc : (x y z : ℕ)
    → cond (leb (cond (leb x y) y x) z) z (cond (leb x y) y x) ≡ cond (leb x (cond (leb y z) z y)) (cond (leb y z) z y) x
max_assoc x y z = grind (arith, nat_tests)

pub greatest-assoc : (a b c : Option ℕ) → greatest (greatest a b) c ≡ greatest a (greatest b c)
greatest-assoc None b c = refl
greatest-assoc (Some x) None c = refl
greatest-assoc (Some x) (Some y) None = refl
greatest-assoc (Some x) (Some y) (Some z) = ap Some (max_assoc x y z)

pub greatest-none : (a : Option ℕ) → greatest a None ≡ a
greatest-none None = refl
greatest-none (Some x) = refl

-- ---- the input of tick n + 1

pub next_inputs : (trace : List InputData) (n : ℕ) (x : InputData) → Some x ≡ slice_get trace n
    → take (n + 1) trace ≡ take n trace ++ x ∷ []
next_inputs trace n x e =
    take_more trace n x (slice_get_within trace n x (sym e))
    ∙ ap (λ (z : InputData). take n trace ++ z ∷ []) (get_or_from_slice_get trace n x x (sym e))

pub next_frames : (trace : List InputData) (n : ℕ) (x : InputData) → n ≤ length trace → length (take n trace) ≡ n
    → Some x ≡ slice_get trace n
    → frames_from 1 (take (n + 1) trace) ≡ frames_from 1 (take n trace) ++ map (at_tick (n + 1)) x.frames
next_frames trace n x h long e =
    let t : 1 + length (take n trace) ≡ n + 1 = omega arith in
    ap (frames_from 1) (next_inputs trace n x e)
    ∙ (frames_from-append 1 (take n trace) (x ∷ [])
    ∙ ap (λ xs. frames_from 1 (take n trace) ++ xs) (append-nil _ ∙ ap (λ k. map (at_tick k) x.frames) t))

-- ---- health

failed-push : (side : Side) (was : Bool) (inputs : List InputData) (x : InputData)
    → failed_from side was (inputs ++ x ∷ []) ≡ failed_by (failed_from side was inputs) (faults_of side x)
failed-push side was [] x = refl
failed-push side was (i ∷ inputs) x = failed-push side (failed_by was (faults_of side i)) inputs x

pub failed_next : (side : Side) (trace : List InputData) (n : ℕ) (x : InputData) (failed : Bool) → failed ≡ has_failed side (take n trace)
    → Some x ≡ slice_get trace n → failed_by failed (faults_of side x) ≡ has_failed side (take (n + 1) trace)
failed_next side trace n x failed h e =
    ap (λ b. failed_by b (faults_of side x)) h
    ∙ sym (ap (has_failed side) (next_inputs trace n x e) ∙ failed-push side false (take n trace) x)

healthy_now : (side : Side) (trace : List InputData) (n : ℕ) (failed : Bool) → failed ≡ has_failed side (take n trace)
    → not failed ≡ is_healthy_by_script side trace (n + 1)
healthy_now side trace n failed h = let back : n ≡ n + 1 - 1 = omega arith in ap not (h ∙ ap (λ k. has_failed side (take k trace)) back)

-- ---- ages

is_on_not_off : (k : Kind) → is_off k ≡ false → k ≢ Off
is_on_not_off k h e = true≢false (sym (ap is_off e) ∙ h)

stamp_case : (config : Settings) (trace : List InputData) (n word : ℕ) → (stamp_of word + 1 ≡ n + 1) ⊎ (stamp_of word + 2 ≡ n + 1)
    → cond (stamp_of word + 1 == n + 1) (oldest_at config trace n) (oldest_at config trace (n - 1)) ≡ oldest_at config trace (stamp_of word)
stamp_case config trace n word (inl e) =
    let same : n ≡ stamp_of word = omega arith in
    ap (λ b. cond b (oldest_at config trace n) (oldest_at config trace (n - 1))) (eq-eqb (stamp_of word + 1) (n + 1) e)
    ∙ ap (oldest_at config trace) same
stamp_case config trace n word (inr e) =
    let same : n - 1 ≡ stamp_of word = omega arith in
    ap (λ b. cond b (oldest_at config trace n) (oldest_at config trace (n - 1))) (ne_eqb (stamp_of word + 1) (n + 1) (λ x. omega arith))
    ∙ ap (oldest_at config trace) same

pub side_age_is : (config : Settings) (trace : List InputData) (n : ℕ) (st : Settled) (side : Side) (failed : Bool) (last before : Option ℕ)
    → failed ≡ has_failed side (take n trace) → last ≡ oldest_at config trace n → before ≡ oldest_at config trace (n - 1)
    → (is_healthy_by_script side trace (n + 1) ≡ true → Backed config trace (n + 1) st side)
    → cond (not (is_off st.power) && not failed) (cond (stamp_of (out_at side st).word + 1 == n + 1) last before) None
    ≡ side_age config trace (n + 1) st side
side_age_is config trace n st side failed last before hf hl hb backed =
    rw (hl, hb, healthy_now side trace n failed hf) (go (is_off st.power) refl (is_healthy_by_script side trace (n + 1)) refl)
  where
    word : ℕ
    word = (out_at side st).word

    go : (off : Bool) → is_off st.power ≡ off → (healthy : Bool) → is_healthy_by_script side trace (n + 1) ≡ healthy
        → cond (not off && healthy)
        (cond (stamp_of (out_at side st).word + 1 == n + 1) (oldest_at config trace n) (oldest_at config trace (n - 1))) None
        ≡ cond (not off && healthy) (oldest_at config trace (stamp_of (out_at side st).word)) None
    go true e healthy k = refl
    go false e false k = refl
    go false e true k = elim (backed k) [
      | inl off ↦ absurd (is_on_not_off st.power e off)
      | inr b ↦ stamp_case config trace n (out_at side st).word b.age
    ]

-- the path from tick n + 1 on
pub path_at : (path : List Settled) (n : ℕ) → n < length path → drop n path ≡ get_or path n no_settled ∷ drop (n + 1) path
path_at path n h = drop-cons path n no_settled h ∙ (rw add-one refl)

pub oldest_more : (config : Settings) (trace : List InputData) (path : List Settled) (n : ℕ) (st : Settled) (so_far whole a b : Option ℕ)
    → n < length path
    → st ≡ get_or path n no_settled → a ≡ side_age config trace (n + 1) st A → b ≡ side_age config trace (n + 1) st B
    → greatest so_far (oldest_from config trace (n + 1) (drop n path)) ≡ whole
    → greatest (greatest so_far (greatest a b)) (oldest_from config trace (n + 1 + 1) (drop (n + 1) path)) ≡ whole
unfolding oldest_from
oldest_more config trace path n st so_far whole a b h is ea eb e =
    greatest-assoc so_far (greatest a b) (oldest_from config trace (n + 1 + 1) (drop (n + 1) path))
    ∙ (ap (greatest so_far)
    (rw (ea, eb) (sym (ap (oldest_from config trace (n + 1)) (path_at path n h
    ∙ ap (λ (s : Settled). s ∷ drop (n + 1) path) (sym is))))) ∙ e)

pub oldest_end : (config : Settings) (trace : List InputData) (path : List Settled) (n : ℕ) (so_far whole : Option ℕ) → length path ≤ n
    → greatest so_far (oldest_from config trace (n + 1) (drop n path)) ≡ whole → so_far ≡ whole
unfolding oldest_from
oldest_end config trace path n so_far whole h e =
    sym (greatest-none so_far) ∙ (ap (λ xs. greatest so_far (oldest_from config trace (n + 1) xs)) (sym (drop_all n path h)) ∙ e)

-- ---- ticks without a healthy side

pub unhealthy_is : (trace : List InputData) (n : ℕ) (st : Settled) (failed_a failed_b : Bool)
    → failed_a ≡ has_failed A (take n trace) → failed_b ≡ has_failed B (take n trace)
    → ◌≡◌ {A = ℕ} (cond (not (is_off st.power) && not (not failed_a || not failed_b)) 1 0) (cond (is_unhealthy trace (n + 1) st) 1 0)
unhealthy_is trace n st failed_a failed_b a b = rw (healthy_now A trace n failed_a a, healthy_now B trace n failed_b b) refl

pub unhealthy_more : (trace : List InputData) (path : List Settled) (n : ℕ) (st : Settled) (so_far whole one : ℕ) → n < length path
    → st ≡ get_or path n no_settled → one ≡ cond (is_unhealthy trace (n + 1) st) 1 0
    → so_far + unhealthy_from trace (n + 1) (drop n path) ≡ whole
    → so_far + one + unhealthy_from trace (n + 1 + 1) (drop (n + 1) path) ≡ whole
unfolding unhealthy_from
unhealthy_more trace path n st so_far whole one h is eo e =
    let here : unhealthy_from trace (n + 1) (drop n path) ≡ one + unhealthy_from trace (n + 1 + 1) (drop (n + 1) path) =
    ap (unhealthy_from trace (n + 1)) (path_at path n h ∙ ap (λ (s : Settled). s ∷ drop (n + 1) path) (sym is)) ∙ (rw eo refl) in
    omega (arith, here, e)

pub unhealthy_end : (trace : List InputData) (path : List Settled) (n so_far whole : ℕ) → length path ≤ n
    → so_far + unhealthy_from trace (n + 1) (drop n path) ≡ whole → so_far ≡ whole
unfolding unhealthy_from
unhealthy_end trace path n so_far whole h e =
    let none : unhealthy_from trace (n + 1) (drop n path) ≡ 0 = ap (unhealthy_from trace (n + 1)) (drop_all n path h) in
    omega (arith, none, e)

-- ---- what is wrong first

pub wrong_next : (config : Settings) (trace : List InputData) (n : ℕ) (x : InputData) (so_far next : Option Wrong) → n ≤ length trace
    → length (take n trace) ≡ n → Some x ≡ slice_get trace n
    → so_far ≡ first_wrong_in config trace [] (frames_from 1 (take n trace))
    → next ≡ first_wrong_in config trace (frames_from 1 (take n trace)) (map (at_tick (n + 1)) x.frames)
    → or_else so_far next ≡ first_wrong_in config trace [] (frames_from 1 (take (n + 1) trace))
wrong_next config trace n x so_far next h long e a b =
    rw (a, b) (sym (ap (first_wrong_in config trace []) (next_frames trace n x h long e)
    ∙ first_wrong-append config trace [] (frames_from 1 (take n trace)) (map (at_tick (n + 1)) x.frames)))

pub at_most_one : (b : Bool) (one : ℕ) → one ≡ cond b 1 0 → one ≤ 1
at_most_one true one e = omega arith
at_most_one false one e = omega arith

pub none_at_start : (config : Settings) (trace : List InputData) → None ≡ oldest_at config trace 0
unfolding oldest_at
none_at_start config trace = go config.car config.platform where
  go : (car platform : Option ℕ) → None ≡ greatest (age_at config trace 0 car) (greatest (age_at config trace 0 platform) None)
  go None None = refl
  go None (Some platform) = refl
  go (Some car) None = refl
  go (Some car) (Some platform) = refl
