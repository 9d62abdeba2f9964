pub mod SendLaws
