-- Every answer of an entry can be read back from its struct; a verdict is 0 in a refusal alone.
use Prim.Native.Nat.{ℕ, zero, suc, ◌-◌}
use mathlib.Core.Path.{◌≡◌, refl, sym, ap, subst, ◌∙◌}
use mathlib.Core.List.{List}
use lib.ListN.{length}
use lib.Dec.{eqb-suc-zero}
use lib.IntN.{ℤ, pos, negsuc}
use native.Mathlib.Omega.{arith}
use Rattle.game.specs.Network.{member_count}
use Rattle.game.specs.Tree.{Tree, network}
use Rattle.game.specs.Proposal.{difference}
use Rattle.answer_forms.specs.Answer.{Check, accepted, refused, Answer, value, refusal, ◌then◌, answer}
use Rattle.answers.specs.Checks.{tree_check, plain_check, small_check, group_check, output_check, proposal_check}
use Rattle.answers.specs.Checks.{outside_share}
use Rattle.answers.specs.DeadEnds.{dead_ends_check, dead_ends_answer}
use Rattle.answers.specs.Members.{member_count_answer, members_check, members_answer}
use Rattle.answers.specs.Needs.{needs_answer}
use Rattle.answers.specs.GroupCost.{group_cost_answer}
use Rattle.answers.specs.Audit.{Verdict, found, none, audit_check, total_answer, search_verdict, search_answer}
use Rattle.answers.specs.Level.{outside_cap, caps_check}
use Rattle.answers.specs.CapSums.{cap_sums_answer}
use Rattle.answers.specs.ByArc.{by_arc_answer}
use Rattle.answers.specs.Margin.{margin_answer}
use Rattle.answers.specs.ParentLists.{Step, next, end, step_answer}
use Rattle.answers.specs.Classes.{Classed, classes_answer}
use Rattle.answers.specs.States.{State as HeldState}
use Rattle.answers.specs.Events.{Change, arrive, leave, new_cost, Event, event_at, apply_check}
use Rattle.answers.specs.Quotes.{Quote, quote_at, QuoteValue, ask_answer, commit_check, commit_answer}
use Rattle.events.specs.Outcomes.{state_of}
use Rattle.events.specs.declared.make.State.{State}
use Rattle.capi.specs.declared.states.ZilqodurStateAnswer.{ZilqodurStateAnswer}
use Rattle.capi.specs.declared.quotes.ZilqodurQuoteAnswer.{ZilqodurQuoteAnswer}
use Rattle.capi.specs.Structs.{encode_members, decode_members, encode_needs, decode_needs, encode_group, decode_group}
use Rattle.capi.specs.Structs.{encode_total, decode_total, encode_search, decode_search, VerdictUnlessRefused}
use Rattle.capi.specs.Structs.{encode_margin, decode_margin, encode_classes, decode_classes, encode_step, decode_step}
use Rattle.capi.specs.Structs.{encode_cap_sums, decode_cap_sums}
use Rattle.capi.specs.Structs.{encode_state, decode_state, encode_event, event_by, encode_quote, quote_by}
use Rattle.capi.specs.Structs.{encode_asked, decode_asked}
use Rattle.capi.proofs.Kept.{Kept, then_kept, tree_kept, plain_kept, bits_kept, list_kept, output_kept}
use Rattle.capi.proofs.Kept.{margin_kept, classes_kept, small_kept, apply_kept, commit_kept}

-- s is the struct of an answer that can be read back: what it stands for, and that its other fields are 0
pub stands_for : {A S : Type 0} (encode : A → S) (decode : S → A) {a found : A} {s : S} → s ≡ encode found → found ≡ a
    → decode (encode a) ≡ a
    → (decode s ≡ a) × (s ≡ encode (decode s))
stands_for encode decode is finds back =
    let e = is ∙ ap encode finds in
    let d = ap decode e ∙ back in
    (d, e ∙ ap encode (sym d))

-- and what holds of the answer's own struct
pub stands_with : {A S : Type 0} (Holds : S → Type 0) (encode : A → S) (decode : S → A) {a found : A} {s : S}
    → s ≡ encode found
    → found ≡ a
    → decode (encode a) ≡ a
    → Holds (encode a)
    → (decode s ≡ a) × ((s ≡ encode (decode s)) × Holds s)
stands_with Holds encode decode is finds back holds =
    let r = stands_for encode decode is finds back in
    (r.0, (r.1, subst Holds (sym (is ∙ ap encode finds)) holds))

pub not_zero : {place : ℕ} → accepted ≡ refused 0 place → ⊥
not_zero e = let z : ◌≡◌ {A = ℕ} 0 1 = cc in omega arith

module _ {A S : Type 0} (encode : Answer A → S) (decode : S → Answer A)
    (values : (x : A) → decode (encode (value x)) ≡ value x)
    (refusals : (n place : ℕ) → decode (encode (refusal (suc n) place)) ≡ refusal (suc n) place) where
  pub answer_back : (c : Check) (x : A) → Kept c → decode (encode (answer c x)) ≡ answer c x
  answer_back accepted x kept = values x
  answer_back (refused zero place) x kept = absurd (not_zero kept)
  answer_back (refused (suc n) place) x kept = refusals n place

members_kept : {A : Type 0} (t : Tree) (wanted : ℕ) (out : List A) → Kept (tree_check t then output_check wanted out)
members_kept t wanted out = then_kept (tree_check t) (output_check wanted out) (tree_kept t) (output_kept wanted out)

count_back : (c : Check) (n : ℕ) → Kept c → decode_members (encode_members (answer c n)) ≡ answer c n
count_back = answer_back encode_members decode_members (λ x. refl) (λ n place. refl)

pub member_count_back : (t : Tree) → decode_members (encode_members (member_count_answer t)) ≡ member_count_answer t
unfolding member_count_answer
member_count_back t = count_back (tree_check t) (member_count (network t)) (tree_kept t)

pub members_back : (t : Tree) (out : List ℕ) → decode_members (encode_members (members_answer t out)) ≡ members_answer t out
unfolding members_answer
members_back t out =
    count_back (members_check t out) (member_count (network t)) (members_kept t (member_count (network t)) out)

pub by_arc_back : (t : Tree) (out : List ℕ) → decode_members (encode_members (by_arc_answer t out)) ≡ by_arc_answer t out
unfolding by_arc_answer
by_arc_back t out =
    count_back (members_check t out) (member_count (network t)) (members_kept t (member_count (network t)) out)

pub dead_ends_back : (parents costs out : List ℕ)
    → decode_members (encode_members (dead_ends_answer parents costs out)) ≡ dead_ends_answer parents costs out
unfolding dead_ends_answer
dead_ends_back parents costs out =
    count_back (dead_ends_check parents costs out) _
    (then_kept (plain_check parents costs) (output_check (length parents) out) (plain_kept parents costs)
    (output_kept (length parents) out))

pub needs_back : (t : Tree) (out : List ℕ) → decode_needs (encode_needs (needs_answer t out)) ≡ needs_answer t out
unfolding needs_answer
needs_back t out =
    answer_back encode_needs decode_needs (λ x. refl) (λ n place. refl) _ _ (members_kept t (length t.parents) out)

pub group_back : (t : Tree) (words : List ℕ)
    → decode_group (encode_group (group_cost_answer t words)) ≡ group_cost_answer t words
unfolding group_cost_answer
group_back t words =
    answer_back encode_group decode_group (λ x. refl) (λ n place. refl) _ _
    (then_kept (tree_check t) (group_check (member_count (network t)) words) (tree_kept t)
    (bits_kept words (1024 - member_count (network t)) (member_count (network t))))

pub search_back : (a : Answer Verdict) (words : List ℕ) → decode_search (encode_search a words) ≡ a
search_back (value (found amount size)) words = refl
search_back (value none) words = refl
search_back (refusal number place) words = refl

pub total_back : (a : Answer ℤ) → decode_total (encode_total a) ≡ a
total_back (value (pos zero)) = refl
total_back (value (pos (suc n))) = rw (eqb-suc-zero n)
total_back (value (negsuc n)) = refl
total_back (refusal number place) = refl

audit_kept : (t : Tree) (shares : List ℤ) → Kept (audit_check t shares)
audit_kept t shares =
    then_kept (tree_check t) (proposal_check (member_count (network t)) shares) (tree_kept t)
    (list_kept outside_share (member_count (network t)) shares)

-- a refusal whose number is kept is not 0, so its struct has no verdict and those of values have
module _ {A S : Type 0} (encode : Answer A → S) (verdict number : S → ℕ)
    (values : (x : A) → VerdictUnlessRefused (verdict (encode (value x))) (number (encode (value x))))
    (refusals : (n place : ℕ) → VerdictUnlessRefused (verdict (encode (refusal (suc n) place)))
    (number (encode (refusal (suc n) place)))) where
  verdict_unless : (c : Check) (x : A) → Kept c
      → VerdictUnlessRefused (verdict (encode (answer c x))) (number (encode (answer c x)))
  verdict_unless accepted x kept = values x
  verdict_unless (refused zero place) x kept = absurd (not_zero kept)
  verdict_unless (refused (suc n) place) x kept = refusals n place

found_verdict : (v : Verdict) (words : List ℕ)
    → VerdictUnlessRefused (encode_search (value v) words).verdict (encode_search (value v) words).refusal
found_verdict (found amount size) words = refl
found_verdict none words = refl

pub search_verdict_lem : (t : Tree) (shares : List ℤ) (words : List ℕ)
    → VerdictUnlessRefused (encode_search (search_answer t shares) words).verdict
    (encode_search (search_answer t shares) words).refusal
unfolding search_answer
search_verdict_lem t shares words =
    verdict_unless (λ a. encode_search a words) (λ s. s.verdict) (λ s. s.refusal) (λ v. found_verdict v words)
    (λ n place. rw (eqb-suc-zero n)) (audit_check t shares) (search_verdict (network t) shares) (audit_kept t shares)

total_found_verdict : (d : ℤ)
    → VerdictUnlessRefused (encode_total (value d)).verdict (encode_total (value d)).refusal
total_found_verdict (pos zero) = refl
total_found_verdict (pos (suc n)) = rw (eqb-suc-zero n)
total_found_verdict (negsuc n) = refl

pub total_verdict : (t : Tree) (shares : List ℤ)
    → VerdictUnlessRefused (encode_total (total_answer t shares)).verdict (encode_total (total_answer t shares)).refusal
unfolding total_answer
total_verdict t shares =
    verdict_unless encode_total (λ s. s.verdict) (λ s. s.refusal) total_found_verdict
    (λ n place. rw (eqb-suc-zero n)) (audit_check t shares) (difference (network t) shares) (audit_kept t shares)

pub step_back : (a : Answer Step) → decode_step (encode_step a) ≡ a
step_back (value next) = refl
step_back (value end) = refl
step_back (refusal number place) = refl

stepped_verdict : (s : Step) → VerdictUnlessRefused (encode_step (value s)).verdict (encode_step (value s)).refusal
stepped_verdict next = refl
stepped_verdict end = refl

pub step_verdict : (parents : List ℕ)
    → VerdictUnlessRefused (encode_step (step_answer parents)).verdict (encode_step (step_answer parents)).refusal
unfolding step_answer
step_verdict parents =
    verdict_unless encode_step (λ s. s.verdict) (λ s. s.refusal) stepped_verdict (λ n place. rw (eqb-suc-zero n))
    (small_check parents) _ (small_kept parents)

-- the tree, caps and an output list of a wanted length
caps_kept : (t : Tree) (caps out : List ℕ) (wanted : ℕ)
    → Kept (tree_check t then caps_check (member_count (network t)) caps then output_check wanted out)
caps_kept t caps out wanted =
    let members = member_count (network t) in
    then_kept (tree_check t) _ (tree_kept t)
    (then_kept (caps_check members caps) (output_check wanted out) (list_kept outside_cap members caps)
    (output_kept wanted out))

pub margin_back : (t : Tree) (arc : ℕ) (out : List ℕ)
    → decode_margin (encode_margin (margin_answer t arc out)) ≡ margin_answer t arc out
unfolding margin_answer
margin_back t arc out =
    answer_back encode_margin decode_margin (λ x. refl) (λ n place. refl) _ _ (margin_kept t arc out)

pub classes_back : (w : Classed) (out totals : List ℕ)
    → decode_classes (encode_classes (classes_answer w out) totals) ≡ classes_answer w out
unfolding classes_answer
classes_back w out totals =
    answer_back (λ a. encode_classes a totals) decode_classes (λ x. refl) (λ n place. refl) _ _ (classes_kept w out)

pub cap_sums_back : (t : Tree) (caps out : List ℕ)
    → decode_cap_sums (encode_cap_sums (cap_sums_answer t caps out)) ≡ cap_sums_answer t caps out
unfolding cap_sums_answer
cap_sums_back t caps out =
    answer_back encode_cap_sums decode_cap_sums (λ x. refl) (λ n place. refl) _ _
    (caps_kept t caps out (length t.parents))

-- the answer beside a state
module _ (s : State) where
  pub state_fields : (a : Answer ℕ)
      → ◌≡◌ {A = ZilqodurStateAnswer}
      (record {
        refusal = (encode_members a).refusal;
        place = (encode_members a).place;
        members = (encode_members a).members;
        state = s;
      })
      (encode_state a s)
  state_fields (value n) = refl
  state_fields (refusal number place) = refl

  state_beside : (a : Answer ℕ) → (encode_state a s).state ≡ s
  state_beside (value n) = refl
  state_beside (refusal number place) = refl

  pub stands_beside : {a told : Answer ℕ} {r : ZilqodurStateAnswer} {h : HeldState}
      → r ≡ encode_state told s
      → told ≡ a
      → decode_state (encode_state a s) ≡ a
      → state_of s ≡ h
      → (decode_state r ≡ a) × ((r ≡ encode_state (decode_state r) r.state) × (state_of r.state ≡ h))
  stands_beside {told = told} {r = r} is finds back holds =
      let stands = stands_for (λ a. encode_state a s) decode_state is finds back in
      let beside = ap (λ (x : ZilqodurStateAnswer). x.state) is ∙ state_beside told in (
        stands.0,
        (stands.1 ∙ ap (encode_state (decode_state r)) (sym beside), ap state_of beside ∙ holds),
      )

  state_back : (c : Check) (n : ℕ) → Kept c → decode_state (encode_state (answer c n) s) ≡ answer c n
  state_back = answer_back (λ a. encode_state a s) decode_state (λ x. refl) (λ n place. refl)

  pub made_back : (t : Tree) → decode_state (encode_state (member_count_answer t) s) ≡ member_count_answer t
  unfolding member_count_answer
  made_back t = state_back (tree_check t) (member_count (network t)) (tree_kept t)

  pub committed_back : (h : HeldState) (q : Quote) → decode_state (encode_state (commit_answer h q) s) ≡ commit_answer h q
  unfolding commit_answer
  committed_back h q = state_back (commit_check h q) _ (commit_kept h q)

-- the answer beside quoted shares
change_back : (c : Change) (v : ℕ) → event_by (encode_event v c) ≡ event_at v c
change_back arrive v = refl
change_back leave v = refl
change_back (new_cost amount) v = refl

quote_back : (q : Quote) → quote_by (encode_quote q) ≡ q
quote_back q = ap (λ (e : Event). quote_at e q.committed) (change_back q.event.change q.event.vertex)

module _ (shares : List ℕ) where
  asked_value : (v : QuoteValue) → decode_asked (encode_asked (value v) shares) ≡ value v
  asked_value v =
      ap (λ (q : Quote). value (record { members = v.members; quote = q })) (quote_back v.quote)

  pub asked_back : (h : HeldState) (e : Event) → decode_asked (encode_asked (ask_answer h e) shares) ≡ ask_answer h e
  unfolding ask_answer
  asked_back h e =
      answer_back (λ a. encode_asked a shares) decode_asked asked_value (λ n place. refl) (apply_check h e) _
      (apply_kept h e)

  shares_beside : (a : Answer QuoteValue) → (encode_asked a shares).shares ≡ shares
  shares_beside (value v) = refl
  shares_beside (refusal number place) = refl

  pub stands_quoted : {a told : Answer QuoteValue} {r : ZilqodurQuoteAnswer} {l : List ℕ}
      → r ≡ encode_asked told shares
      → told ≡ a
      → decode_asked (encode_asked a shares) ≡ a
      → shares ≡ l
      → (decode_asked r ≡ a) × ((r ≡ encode_asked (decode_asked r) r.shares) × (r.shares ≡ l))
  stands_quoted {told = told} {r = r} is finds back holds =
      let stands = stands_for (λ a. encode_asked a shares) decode_asked is finds back in
      let beside = ap (λ (x : ZilqodurQuoteAnswer). x.shares) is ∙ shares_beside told in (
        stands.0,
        (stands.1 ∙ ap (encode_asked (decode_asked r)) (sym beside), beside ∙ holds),
      )
