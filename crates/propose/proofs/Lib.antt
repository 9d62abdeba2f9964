pub mod ProposeLaws
