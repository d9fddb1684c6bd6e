pub mod ExactlyOnce
