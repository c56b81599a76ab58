-- What is told of the answer of the first form.
use Rattle.std.specs.Prelude.{true}
use Rattle.std.proofs.Common.{◌≡◌, ◌≢◌, ◌<◌, ℕ, List, Result, Ok, Err, Vec, IfErr, IfOk, arith, inl, inr, refl, sym, ap, subst}
use Rattle.std.specs.declared.alloc.Global.{Global}
use Rattle.cc_first_list.specs.First.{Answers, IsFirst}
use Rattle.cc_first_list.specs.Points.{most_points}
use Rattle.cc_first_list.specs.declared.answer.Answer.{Answer}
use Rattle.cc_first_list.specs.declared.answer.Answer.TheVariants as answer
use Rattle.cc_front.specs.declared.fault.FrontFault.{FrontFault}
use Rattle.cc_listing.specs.Answers.{IsTable, RefusedWhole}
use Rattle.cc_listing.specs.declared.fault.ListFault.{ListFault}
use Rattle.cc_listing.specs.declared.fault.ListFault.TheVariants as list
use Rattle.cc_program.specs.declared.program.Program.{Program}
use Rattle.cc_project.specs.Project.{Project}
use Rattle.cc_project.specs.WellMade.{file_names_of}
use Rattle.cc_top.proofs.CheckFacts.{refuses}
use Rattle.cc_top.proofs.FrontFacts.{front_told}
use Rattle.cc_top.proofs.Tells.{Outcome, tells_weaker}
use Rattle.cc_top.specs.Answer.{OfListed, OfWhole, made, refused, reply_of}
use Rattle.cc_top.specs.Refused.{IsRefusal, of_front, of_listing}
use Rattle.cc_top.specs.declared.refusal.Refusal.{Refusal}
use Rattle.cc_top.specs.Refusal.{points_line, status_of}
use Rattle.cc_top.specs.Tells.{IsListed, Tells, answered}

first_of : (bytes : List ℕ) (project : Project) (contents : List (List ℕ)) (a : Answer) → Answers bytes (file_names_of project.files) contents a
    → Tells (OfListed bytes project contents) (answered a)
first_of bytes project contents (answer.Table text) h = inl (h.0, inl (h.1.0, text.items, h.1.1, refl))
first_of bytes project contents (answer.TooManyPoints count) h = λ below. inl (h.0, inr (subst (λ n. most_points < n) h.1.0 h.1.1, ap (λ n. refused (points_line n) 3) h.1.0))

-- what is answered for a project of the first form is what is told of it
pub first_told : (bytes : List ℕ) (project : Project) (contents : List (List ℕ)) (a : Answer) (r : Outcome) → Answers bytes (file_names_of project.files) contents a → r ≡ answered a
    → Tells (OfListed bytes project contents) r
first_told bytes project contents a r h is = subst (Tells (OfListed bytes project contents)) (sym is) (first_of bytes project contents a h)

-- where the project is not of the first form
pub not_first : (bytes : List ℕ) (project : Project) (contents : List (List ℕ)) (r : Outcome) → (IsFirst bytes (file_names_of project.files) contents → ⊥) → Tells (OfWhole project) r
    → Tells (OfListed bytes project contents) r
not_first bytes project contents r none h = tells_weaker (OfWhole project) (OfListed bytes project contents) (λ reply of. inr (none, of)) r h

-- what is made of this program, or why there is nothing
pub listed_of : (P : Program) (list : Result (Vec ℕ Global) ListFault) → IfOk list (λ text. IsTable P text.items) → IfErr list (RefusedWhole P) → IsListed list
listed_of P list text fault = (P, text, fault)

pub table_told : (project : Project) (text : Vec ℕ Global) → IsListed (Ok text) → OfWhole project (made text.items true)
table_told project text is = inr (inl (is.0, text.items, is.1, refl))

listing_kind : (fault : ListFault) → status_of (of_listing fault) ≢ 2
listing_kind (list.TooManyPoints count) = λ e. absurd (omega (arith, e))
listing_kind list.TooManyFacts = λ e. absurd (omega (arith, e))
listing_kind list.TooManyRows = λ e. absurd (omega (arith, e))
listing_kind list.Internal = λ e. absurd (omega (arith, e))
listing_kind list.Memory = λ e. absurd (omega (arith, e))

pub listing_told : (project : Project) (fault : ListFault) (r : Refusal) → IsListed (Err fault) → r ≡ of_listing fault → status_of r < 4 → OfWhole project (reply_of r)
listing_told project fault r is e below =
    inr (inr (is.0, fault, is.2, refuses (of_listing fault) r (subst (λ q. status_of q ≢ 2) (sym e) (listing_kind fault)) (inl e) below))

-- files that the front end refuses have no table
pub files_refused : (project : Project) (fault : FrontFault) (r : Refusal) → IsRefusal (of_front project fault) r → status_of r < 4 → OfWhole project (reply_of r)
files_refused project fault r is below = inl (front_told project fault r is below)
