-- What is read is spelled so.
use Rattle.std.proofs.Common.{◌≡◌, ◌≢◌, inl, inr, ◌<◌, ◌≤◌, ◌+◌, ◌++◌, ◌==◌, Bool, List, [], ◌∷◌, ℕ, length, refl, sym, ap, ◌∙◌, subst, arith, true, false, codes, append_assoc, rules, nat_lt, append-nil, replicate, Ok, Err, Result}
use Rattle.std.specs.List.{flat_map, AllByRecursion}
use Rattle.std.specs.Str.{bytes_eq}
use Rattle.std.proofs.lemmas.Bool.{cases_Bool, false≢true}
use Rattle.std.proofs.lemmas.Grind.{common_steps, flat_map-append}
use Rattle.std.proofs.lemmas.Slice.Eq.{bytes_eq-Decides}
use Rattle.lift_base.specs.declared.limits.TheConstants.{HEAD_TOO_LONG}
use Rattle.lift_base.specs.declared.TheConstants.{SOURCES}
use Rattle.lift_base.specs.declared.forms.Form.TheVariants.{Replay}
use Rattle.lift_config.specs.declared.ConfigFault.{ConfigFault}
use Rattle.lift_config.specs.Head.{read_head}
use Rattle.lift_model.specs.Records.{Settings}
use Rattle.script_model.specs.Faults.{all_stand}
use Rattle.script_model.specs.Judging.{ScriptData, at_start}
use Rattle.script_model.specs.Meaning.{InHead, InLine, head_read, MeansScript}
use Rattle.script_laws.specs.Spelling.{line_text, group_text, body_of, IsOneLine, IsHeadLine, IsSpelled}
use Rattle.script_laws.proofs.Walks.{fresh, Walked, Comes, never, walked, no_feed_more}
use Rattle.script_laws.proofs.Groups.{all_more, all_grouped}

-- the head of a text, its mark, and what comes behind it
record Headed (places : List Bool) (text : List ℕ) (s : ScriptData) : Type 0 where
  head : List (List ℕ)
  tail : List ℕ
  config : Settings
  number : ℕ
  used : ℕ
  whole : text ≡ flat_map line_text head ++ (codes "%%\n" ++ tail)
  each : AllByRecursion IsHeadLine head
  few : length (flat_map line_text head) + 3 ≤ HEAD_TOO_LONG
  is : read_head (flat_map line_text head) ≡ Ok config
  comes : Comes (InLine (at_start Replay places config) number used []) tail s

head_more : (head : List (List ℕ)) (line : List ℕ) → flat_map line_text (head ++ line ∷ []) ≡ flat_map line_text head ++ (line ++ 10 ∷ [])
head_more head line = flat_map-append line_text head (line ∷ []) ∙ ap (λ x. flat_map line_text head ++ x) (append-nil (line ++ 10 ∷ []))

ten : (b : ℕ) → (b == 10) ≡ true → b ≡ 10
ten b is = grind (arith, common_steps)

marked : (places : List Bool) (head : List (List ℕ)) (line text : List ℕ) (b number used : ℕ) (s : ScriptData)
    (r : Result Settings ConfigFault)
    → read_head (flat_map line_text head) ≡ r
    → line ≡ codes "%%" → b ≡ 10 → AllByRecursion IsHeadLine head → length (flat_map line_text head) + length line < HEAD_TOO_LONG
    → Comes (head_read Replay places r number used) text s → Headed places (flat_map line_text head ++ (line ++ b ∷ text)) s
marked places head line text b number used s (Err fault) is mark feed each few comes = never _ used text s comes
marked places head line text b number used s (Ok config) is mark feed each few comes = record {
  head = head;
  tail = text;
  config = config;
  number = number;
  used = used;
  whole = ap (λ (x : List ℕ). flat_map line_text head ++ (x ++ b ∷ text)) mark
      ∙ ap (λ (x : ℕ). flat_map line_text head ++ (codes "%%" ++ x ∷ text)) feed;
  each = each;
  few = let e = ap length mark in omega (arith, e, few);
  is = is;
  comes = comes;
}

not_mark : (line : List ℕ) → bytes_eq line (codes "%%") ≡ false → line ≢ codes "%%"
not_mark line is z = false≢true (sym is ∙ ap (λ (x : List ℕ). bytes_eq x (codes "%%")) z)

headed : (places : List Bool) (text : List ℕ) (head : List (List ℕ)) (line : List ℕ) (n : ℕ) (s : ScriptData)
    → AllByRecursion IsHeadLine head → IsOneLine line
    → length (flat_map line_text head) + length line < HEAD_TOO_LONG → Comes (InHead Replay places (flat_map line_text head) line n) text s
    → Headed places (flat_map line_text head ++ (line ++ text)) s
headed places [] head line n s each one few comes = absurd cc
headed places (b ∷ text) head line n s each one few comes = elim (cases_Bool (b == 10)) [
  | inl is ↦ elim (cases_Bool (bytes_eq line (codes "%%"))) [
    | inl mark ↦ marked places head line text b (n + 1) _ s _ refl ((bytes_eq-Decides line (codes "%%")).0 mark) (ten b is) each few
        (rw (is, mark) at comes)
    | inr other ↦ elim (cases_Bool (nat_lt (length (flat_map line_text head ++ (line ++ 10 ∷ [])) + 0) HEAD_TOO_LONG)) [
      | inl room ↦
          let less : length (flat_map line_text head ++ (line ++ 10 ∷ [])) + 0 < HEAD_TOO_LONG = search rules in
          let same = head_more head line in
          let long = ap length same in
          let comes' : Comes (InHead Replay places (flat_map line_text head ++ (line ++ 10 ∷ [])) [] (n + 1)) text s =
          rw (is, other, room) at comes in
          let more = headed places text (head ++ line ∷ []) [] (n + 1) s
          (all_more IsHeadLine head line each (record { one = one; other = not_mark line other })) tt (omega (arith, long, less))
          (subst (λ (x : List ℕ). Comes (InHead Replay places x [] (n + 1)) text s) (sym same) comes') in
          let whole : flat_map line_text (head ++ line ∷ []) ++ text ≡ flat_map line_text head ++ (line ++ b ∷ text) =
          ap (λ (x : List ℕ). x ++ text) same ∙ append_assoc (flat_map line_text head) (line ++ 10 ∷ []) text
          ∙ ap (λ (x : List ℕ). flat_map line_text head ++ x) (append_assoc line (10 ∷ []) text)
          ∙ ap (λ (x : ℕ). flat_map line_text head ++ (line ++ x ∷ text)) (sym (ten b is)) in
          subst (λ (x : List ℕ). Headed places x s) whole more
      | inr full ↦ never _ _ text s (rw (is, other, full) at comes)
    ]
  ]
  | inr is ↦ elim (cases_Bool (nat_lt (length (flat_map line_text head) + length (line ++ b ∷ [])) HEAD_TOO_LONG)) [
    | inl room ↦
        let less : length (flat_map line_text head) + length (line ++ b ∷ []) < HEAD_TOO_LONG = search rules in
        let comes' : Comes (InHead Replay places (flat_map line_text head) (line ++ b ∷ []) n) text s = rw (is, room) at comes in
        subst (λ (x : List ℕ). Headed places (flat_map line_text head ++ x) s) (append_assoc line (b ∷ []) text)
        (headed places text head (line ++ b ∷ []) n s each (no_feed_more line b one is) less comes')
    | inr full ↦ never _ _ text s (rw (is, full) at comes)
  ]
]

all_spelled : (places : List Bool) (text : List ℕ) (s : ScriptData) → (h : Headed places text s)
    → Walked h.config (fresh [] (all_stand places) (record { a = 0; b = 0 }) (replicate SOURCES 0)) h.tail s → IsSpelled places text s
all_spelled places text s h w =
    let g = all_grouped w.items places h.config (record { a = 0; b = 0 }) (replicate SOURCES 0) w.last w.walks w.still in
    let config : h.config ≡ s.config = sym (ap (λ (x : ScriptData). x.config) w.is) in
    let inputs : s.inputs ≡ w.last.done = ap (λ (x : ScriptData). x.inputs) w.is in
    let body : h.tail ≡ body_of g.groups g.remarks w.after = w.whole ∙ ap (λ (x : List ℕ). x ++ (codes "e" ++ w.after)) g.spelling
    ∙ append_assoc (flat_map group_text g.groups) (flat_map line_text g.remarks) (codes "e" ++ w.after) in
    record {
      head = h.head;
      groups = g.groups;
      remarks = g.remarks;
      after = w.after;
      spelling = h.whole ∙ ap (λ (x : List ℕ). flat_map line_text h.head ++ (codes "%%\n" ++ x)) body;
      head_lines = h.each;
      head_few = h.few;
      config = h.is ∙ ap Ok config;
      group_lines = g.group_lines;
      fault_lines = g.fault_lines;
      remark_lines = g.remark_lines;
      few_remarks = g.few_remarks;
      end = w.end;
      few = let a = ap length inputs in let b = ap (λ (x : Settings). x.ticks) config in omega (arith, a, b, g.few);
      inputs = inputs ∙ g.inputs;
      steps = ap (λ (x : ScriptData). x.steps) w.is;
    }

-- what is read is spelled so
pub read_is_spelled : (places : List Bool) (text : List ℕ) (s : ScriptData) → MeansScript Replay places text s → IsSpelled places text s
read_is_spelled places text s means =
    let h = headed places text [] [] 1 s tt tt (omega arith) means in
    all_spelled places text s h (walked h.tail h.config (fresh [] (all_stand places) (record { a = 0; b = 0 })
    (replicate SOURCES 0)) h.number h.used [] s tt
    (omega arith) h.comes)
