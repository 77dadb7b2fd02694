-- The writer's answer and output, by what its checks find.
use Prim.Native.Nat.{ℕ, ◌+◌, ◌*◌, ◌^◌, ◌<◌, ◌≤◌}
use mathlib.Core.Path.{◌≡◌, refl, sym, ◌∙◌}
use mathlib.Core.List.{List}
use native.Mathlib.Omega.{arith}
use lib.ListN.{length}
use Rattle.buffer.specs.Put.{Put}
use Rattle.game.specs.Tree.{dead_end_tree}
use Rattle.answer_forms.specs.Answer.{Check, Answer, value, refusal, accepted, refused, ◌then◌}
use Rattle.answer_forms.proofs.Composed.{answered, refused_answer, went_on}
use Rattle.answers.specs.Checks.{proposal_check}
use Rattle.answers.specs.Level.{caps_check}
use Rattle.answers.specs.Members.{member_count_answer}
use Rattle.answers.proofs.DeadEnds.{plain_check_lem}
use Rattle.job_bytes.specs.JobBytes.{Contents, plain, plain_job}
use Rattle.job_bytes.specs.Versions.{floor_width, member_width}
use Rattle.job_bytes.specs.declared.version.Version.TheVariants.{One}
use Rattle.job_bytes.proofs.Parts.{job_length}
use Rattle.limits.specs.Limits.{most_arcs}
use Rattle.job.specs.Writer.{note_check, contents_check, length_answer, write_check, write_answer, write_output}
use Rattle.job_checks.specs.JobCheck.{space_check}
use Rattle.job_checks.proofs.Counted.{tree_refused, tree_counted}
use Rattle.job_checks.proofs.Written.{turned_away, has_space, written_out as job_written}
use Rattle.job_checks.proofs.Written.{refused_first, accepted_first}
use Rattle.job_checks.proofs.Made.{few_arcs, few_members, fits}
use Rattle.job.proofs.Writable.{writable, fillable}

module _ (c : Contents) where
  -- the checks by the answer of the count of the tree's members, and the rest by their number
  pub not_counted : {number place : ℕ} → refusal number place ≡ member_count_answer (dead_end_tree c.parents c.costs)
      → refused number place ≡ contents_check c
  unfolding contents_check
  not_counted e = rw (sym (plain_check_lem c.parents c.costs) ∙ tree_refused _ e) refl

  pub counted : {n : ℕ} {rest : Check} → value n ≡ member_count_answer (dead_end_tree c.parents c.costs)
      → rest ≡ (caps_check n c.caps then proposal_check n c.proposals then note_check (length c.note))
      → rest ≡ contents_check c
  unfolding contents_check
  counted e is =
      let known = tree_counted _ e in
      went_on (sym (plain_check_lem c.parents c.costs) ∙ known.0) (rw known.1 at is)

  pub refused_length : {number place : ℕ} → contents_check c ≡ refused number place
      → refusal number place ≡ length_answer c
  unfolding length_answer
  refused_length e = rw e

  pub accepted_length : contents_check c ≡ accepted
      → value (length c.note + 8 * length c.parents + 16 * length c.caps + 16) ≡ length_answer c
  unfolding length_answer floor_width
  accepted_length e = rw (e, job_length One (plain c))

  pub length_small : contents_check c ≡ accepted
      → length c.note + 8 * length c.parents + 16 * length c.caps + 16 < 2 ^ 64
  length_small e =
      let w = fillable c (writable c e) in
      omega (arith, w.note, few_arcs One _ c w, few_members One _ c w)

  module _ (out : List ℕ) where
    -- the answer and the output are those that are defined
    abbrev pub Answered : Answer ℕ → List ℕ → Type 0
    Answered a after = (a ≡ write_answer c out) × (after ≡ write_output c out)

    pub no_length : {number place : ℕ} → refusal number place ≡ length_answer c → Answered (refusal number place) out
    unfolding length_answer write_check write_answer write_output
    no_length e = refused_first (plain_job c) out (refused_answer (contents_check c) (length (plain_job c)) e)

    -- where the length was asked for
    module _ {n : ℕ} (asked : value n ≡ length_answer c) where
      known : (contents_check c ≡ accepted) × (n ≡ length (plain_job c))
      unfolding length_answer
      known = answered (contents_check c) (length (plain_job c)) n (sym asked)

      pub no_space : {number place : ℕ} → refused number place ≡ space_check (length out) n
          → Answered (refusal number place) out
      unfolding write_check write_answer write_output
      no_space e = accepted_first (plain_job c) out known.0 (turned_away (plain_job c) out (rw known.1 at (sym e)))

      module _ (e : accepted ≡ space_check (length out) n) where
        space : space_check (length out) (length (plain_job c)) ≡ accepted
        space = rw known.1 at (sym e)

        -- what the writing of the bytes asks for
        pub has_room :
            (length c.parents ≤ most_arcs)
            × (length c.costs ≡ length c.parents)
            × (length c.proposals ≡ length c.caps)
            × (length c.note + 8 * length c.parents + member_width One * length c.caps + 16 ≤ length out)
        has_room =
            let ok = fillable c (writable c known.0) in
            let f = fits One _ c ok in
            let long = has_space (plain_job c) out space in (
              few_arcs One _ c ok,
              f.matched.costed,
              f.matched.proposed,
              omega (arith, job_length One (plain c), long),
            )

        pub written_out : {after : List ℕ} {end : ℕ} → Put out 0 (plain_job c) after end → Answered (value n) after
        unfolding write_check write_answer write_output
        written_out put =
            rw known.1 (accepted_first (plain_job c) out known.0 (job_written (plain_job c) out space put))
