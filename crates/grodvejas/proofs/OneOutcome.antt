-- Each exported call has one outcome for each input: any two that its contract permits are equal, in the number, or number, line and place, and in
-- all that is handed out or lent. Assumes nothing.
use Prim.Native.Nat.{ℕ}
use mathlib.Core.Path.{◌≡◌, refl, sym, ◌∙◌}
use mathlib.Core.List.{List}
use Rattle.std.specs.Prelude.{Result}
use Rattle.refusals.specs.declared.Refusal.{Refusal}
use Rattle.machine.specs.declared.State.{State}
use Rattle.machine.specs.declared.Step.{Step}
use Rattle.scheduling.proofs.Outcomes.{Same, same_all}
use Rattle.handing_tables.specs.Tables.{HandsStep, Counted}
use Rattle.handing_tables.proofs.Given.{same_number}
use Rattle.handing.specs.Handing.{Listed}
use Rattle.grodvejas.specs.Calls.{Wrote, Fits, Provides, Reads, Steps, StepsTable, Tells, Analyses}

-- ---- the calls that write one result: adding, cutting, the report and a table's text

pub wrote_once : {outcome : Result ℕ Refusal} {result old : List ℕ} {count r q n m : ℕ} {x y : List ℕ} → Wrote outcome result old count r n x
    → Wrote outcome result old count q m y → (r ≡ q) × (n ≡ m) × (x ≡ y)
wrote_once p o = (p.number ∙ sym o.number, p.counted ∙ sym o.counted, p.buffer ∙ sym o.buffer)

-- ---- the other calls on curves

pub fits_once : (demand supply left served rest : List ℕ) (l s d : ℕ) {r q l₁ s₁ d₁ l₂ s₂ d₂ : ℕ} {x₁ y₁ z₁ x₂ y₂ z₂ : List ℕ}
    → Fits demand supply left served rest l s d r l₁ s₁ d₁ x₁ y₁ z₁ → Fits demand supply left served rest l s d q l₂ s₂ d₂ x₂ y₂ z₂
    → (r ≡ q) × (l₁ ≡ l₂) × (s₁ ≡ s₂) × (d₁ ≡ d₂) × (x₁ ≡ x₂) × (y₁ ≡ y₂) × (z₁ ≡ z₂)
fits_once demand supply left served rest l s d p o = (
  p.number ∙ sym o.number,
  p.left_count ∙ sym o.left_count,
  p.served_count ∙ sym o.served_count,
  p.rest_count ∙ sym o.rest_count,
  p.left_buffer ∙ sym o.left_buffer,
  p.served_buffer ∙ sym o.served_buffer,
  p.rest_buffer ∙ sym o.rest_buffer,
)

pub provides_once : (curve : List ℕ) (amount instant : ℕ) {r q n m : ℕ} → Provides curve amount instant r n → Provides curve amount instant q m
    → (r ≡ q) × (n ≡ m)
provides_once curve amount instant p o = (p.number ∙ sym o.number, p.reached ∙ sym o.reached)

-- ---- calls on a table

pub reads_once : (text : List ℕ) (n : Counted) (servers tasks : List ℕ) {p q : Refusal} {n₁ n₂ : Counted} {servers₁ tasks₁ servers₂ tasks₂ : List ℕ}
    → Reads text n servers tasks p n₁ servers₁ tasks₁ → Reads text n servers tasks q n₂ servers₂ tasks₂
    → (p ≡ q) × (n₁ ≡ n₂) × (servers₁ ≡ servers₂) × (tasks₁ ≡ tasks₂)
reads_once text n servers tasks p o = (
  p.refusal_is ∙ sym o.refusal_is,
  λ i. record {
    span = (p.ticks ∙ sym o.ticks) i;
    servers = (p.servers_count ∙ sym o.servers_count) i;
    tasks = (p.tasks_count ∙ sym o.tasks_count) i;
  },
  p.servers_are ∙ sym o.servers_are,
  p.tasks_are ∙ sym o.tasks_are,
)

step_once : {stepped : Result Step Refusal} {before : State} {p q : Refusal} {holder₁ runner₁ holder₂ runner₂ : ℕ} {after₁ after₂ : State}
    → HandsStep stepped before p after₁ holder₁ runner₁ → HandsStep stepped before q after₂ holder₂ runner₂
    → (p ≡ q) × (after₁ ≡ after₂) × (holder₁ ≡ holder₂) × (runner₁ ≡ runner₂)
step_once p o = (p.refusal_is ∙ sym o.refusal_is, p.next ∙ sym o.next, p.holds ∙ sym o.holds, p.runs ∙ sym o.runs)

module _ (before : State) {holder₁ runner₁ holder₂ runner₂ : ℕ} {after₁ after₂ : State} where
  pub steps_once : (text : List ℕ) {p q : Refusal} → Steps text before p after₁ holder₁ runner₁ → Steps text before q after₂ holder₂ runner₂
      → (p ≡ q) × (after₁ ≡ after₂) × (holder₁ ≡ holder₂) × (runner₁ ≡ runner₂)
  steps_once text p o = step_once p o

  -- of a table that is given by its rows
  pub steps_table_once : (n : Counted) (servers tasks : List ℕ) {r q : ℕ} → StepsTable n servers tasks before r after₁ holder₁ runner₁
      → StepsTable n servers tasks before q after₂ holder₂ runner₂ → (r ≡ q) × (after₁ ≡ after₂) × (holder₁ ≡ holder₂) × (runner₁ ≡ runner₂)
  steps_table_once n servers tasks p o = let once = step_once p o in (same_number once.0, once.1, once.2, once.3)

-- ---- calls on a text and six work buffers

module _ (text a b c d e f : List ℕ) {a₁ b₁ c₁ d₁ e₁ f₁ a₂ b₂ c₂ d₂ e₂ f₂ : List ℕ} where
  pub tells_once : (tick holder runner : ℕ) {p q : Refusal} {holder₁ runner₁ holder₂ runner₂ : ℕ}
      → Tells text tick a b c d e f holder runner p holder₁ runner₁ a₁ b₁ c₁ d₁ e₁ f₁
      → Tells text tick a b c d e f holder runner q holder₂ runner₂ a₂ b₂ c₂ d₂ e₂ f₂
      → Same p q a₁ b₁ c₁ d₁ e₁ f₁ a₂ b₂ c₂ d₂ e₂ f₂ × (holder₁ ≡ holder₂) × (runner₁ ≡ runner₂)
  tells_once tick holder runner p o = (
    same_all (p.who.refusal_is ∙ sym o.who.refusal_is) refl p.buffers o.buffers,
    p.who.holds ∙ sym o.who.holds,
    p.who.runs ∙ sym o.who.runs,
  )

  pub analyses_once : (n : Counted) (l : Listed) {p q : Refusal} {n₁ n₂ : Counted} {l₁ l₂ : Listed}
      → Analyses text a b c d e f n l p n₁ l₁ a₁ b₁ c₁ d₁ e₁ f₁ → Analyses text a b c d e f n l q n₂ l₂ a₂ b₂ c₂ d₂ e₂ f₂
      → Same p q a₁ b₁ c₁ d₁ e₁ f₁ a₂ b₂ c₂ d₂ e₂ f₂ × (n₁ ≡ n₂) × (l₁ ≡ l₂)
  analyses_once n l p o = (
    same_all (p.answers.refusal_is ∙ sym o.answers.refusal_is) refl p.buffers o.buffers,
    λ i. record {
      span = (p.answers.ticks ∙ sym o.answers.ticks) i;
      servers = (p.answers.servers_count ∙ sym o.answers.servers_count) i;
      tasks = (p.answers.tasks_count ∙ sym o.answers.tasks_count) i;
    },
    λ i. record {
      servers = (p.answers.servers_are ∙ sym o.answers.servers_are) i;
      tasks = (p.answers.tasks_are ∙ sym o.answers.tasks_are) i;
      margin = (p.answers.margins_are ∙ sym o.answers.margins_are) i;
    },
  )
