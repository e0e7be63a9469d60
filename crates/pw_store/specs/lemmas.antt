pub mod OneProof
